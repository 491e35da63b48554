-- What the program writes, and why it refuses: stated over the bytes that its sources tell.
use Rattle.std.specs.Prelude.{◌≡◌, ◌⊎◌, ◌<◌, ℕ, List, map, Option, Some, IfSome, slice_get, take, ⊤}
use Rattle.std.specs.List.{AllZip}
use Rattle.std.specs.Io.KnownBytes.{Appends, Keeps}
use Rattle.ends.specs.Prelude.{AppendsFront, output_line}
use Rattle.arrays.specs.Prelude.{FieldShape}
use Rattle.table.specs.Prelude.{History, QueryFault, QueryShape}
use Rattle.job.specs.Jobs.{names_of, text_of_query}
use Rattle.job.specs.declared.jobs.Command.{Command}
use Rattle.job.specs.declared.jobs.Command.TheVariants.{Query}
use Rattle.job.specs.declared.jobs.Job.{Job}
use Rattle.job.specs.declared.jobs.Output.{Output}
use Rattle.job.specs.declared.jobs.QuerySource.{QuerySource}
use Rattle.arrow_json.specs.Prelude.{BytesFault, FileData, JsonFaultKind, QueryBytesFault, Reads, ReadsQueryText, Step}
use Rattle.arrowtab.specs.Column.{FailedColumn, IsAllowed, IsColumn, IsColumnRead, RefusesColumn, column_text, fields_with, history_with}
use Rattle.arrowtab.specs.Output.{Prints, PrintsNothing}
use Rattle.arrowtab.specs.Loaded.{IsLoaded, IsStopped}
use Rattle.arrowtab.specs.TookFault.{IsLineOf}
use Rattle.reports.specs.declared.run_fault.ColumnFault.{ColumnFault}
use Rattle.reports.specs.declared.run_fault.ColumnFault.TheVariants as column
use Rattle.reports.specs.declared.run_fault.ColumnFault.TheVariants.{Unread}
use Rattle.reports.specs.declared.run_fault.FileFault.{FileFault}
use Rattle.reports.specs.declared.run_fault.FileFault.TheVariants.{CannotRead, Json, Refused}
use Rattle.reports.specs.declared.run_fault.RunFault.{RunFault}
use Rattle.reports.specs.declared.run_fault.RunFault.TheVariants.{NoMemory, OfColumn, OfFile, QueryUnread, QueryRefused}
use Rattle.reports.specs.FileBatches.{batches_with_fields, table_fields}
use Rattle.table.specs.declared.refusal.Refusal.{Refusal}

-- What each source still has to give, where it tells it.
abbrev pub Inputs : Type 0
Inputs = List (Option (List ℕ))

-- There is a file for each source, and the bytes of a source that tells them are read as its file.
abbrev pub AreRead : Inputs → List FileData → Type 0
AreRead inputs files = AllZip (λ input file. IfSome input (λ bytes. Reads bytes file)) inputs files

-- What is said holds of the job's table, of the files of these sources: a legal history has each of its workers add its list of their
-- batches, in order, and behind all of them comes the job's column, where it has one.
pub record OfJob (job : Job) (inputs : Inputs) (says : List FieldShape → History → Type 0) : Type 0 where
  pub files : List FileData
  pub read : AreRead inputs files
  pub column : Option FieldShape
  pub given : IsColumn (column_text job) column
  pub allowed : IsAllowed column
  pub history : History
  pub loaded : IsLoaded job.workers (map batches_with_fields files) (table_fields files) history
  pub is : says (fields_with column (table_fields files)) (history_with column (table_fields files) history)

-- The text is the job's output.
abbrev pub Answers : Job → Inputs → List ℕ → Type 0
Answers job inputs text = OfJob job inputs (λ fields h. Prints job.command job.workers fields h text)

-- The job's query is refused.
abbrev pub RefusesQuery : Job → Inputs → QueryFault → Type 0
RefusesQuery job inputs fault = OfJob job inputs (λ fields h. PrintsNothing job.command fields h fault)

-- The sources' bytes are read, and a cause stands for a batch of a file, after those that its worker adds before it.
pub record Refuses (workers : ℕ) (inputs : Inputs) (file number : ℕ) (refusal : Refusal) : Type 0 where
  pub files : List FileData
  pub read : AreRead inputs files
  pub stopped : IsStopped workers (map batches_with_fields files) (table_fields files) file number refusal

-- The command's query isn't read: this fault of its bytes stands.
pub record FailedQuery (command : Command) (kind : JsonFaultKind) (path : List Step) : Type 0 where
  pub source : QuerySource
  pub output : Output
  pub asks : command ≡ Query source output
  pub stands : QueryBytesFault (text_of_query source) kind path

-- ---- a run, where its ends tell their bytes. An end that doesn't tell them is none here.

-- The whole output was written.
abbrev pub Wrote : Job → Inputs → Option (List ℕ) → Option (List ℕ) → Type 0
Wrote job inputs old new = (text : List ℕ) × Answers job inputs text × Appends old new text

-- The output took nothing, or a beginning of the text and a write failed.
pub data WroteFront (job : Job) (inputs : Inputs) (old new : Option (List ℕ)) (failed failures : ℕ) : Type 0 where
  nothing : Keeps old new → WroteFront job inputs old new failed failures
  front : (text : List ℕ) → Answers job inputs text → AppendsFront old new text → failed < failures → WroteFront job inputs old new failed failures

-- A file's source failed in this call.
pub record FailedRead (before after : List ℕ) (file : ℕ) : Type 0 where
  pub failed : ℕ
  pub failures : ℕ
  pub first : slice_get before file ≡ Some failed
  pub last : slice_get after file ≡ Some failures
  pub more : failed < failures

-- The bytes of a file's source, where it tells them, aren't read as a file: this fault stands.
pub record FailedFile (inputs : Inputs) (file : ℕ) (kind : JsonFaultKind) (path : List Step) : Type 0 where
  pub input : Option (List ℕ)
  pub of_file : slice_get inputs file ≡ Some input
  pub stands : IfSome input (λ bytes. BytesFault bytes kind path)

-- ---- why it refuses

-- The cause of a file's fault, for so many workers: one of reading it, or a refusal of one of its batches.
abbrev pub ExplainsFile : ℕ → Inputs → List ℕ → List ℕ → ℕ → FileFault → Type 0
ExplainsFile workers inputs before after file CannotRead = FailedRead before after file
ExplainsFile workers inputs before after file (Json f) = FailedFile inputs file f.kind f.path
ExplainsFile workers inputs before after file (Refused number refusal) = Refuses workers inputs file number refusal

-- The cause of a fault of a job's column.
abbrev pub ExplainsColumn : Job → ColumnFault → Type 0
ExplainsColumn job (Unread f) = FailedColumn job f.kind f.path
ExplainsColumn job (column.Refused fault) = RefusesColumn job fault

-- The cause of a fault: of a file, of the query's bytes, of the query over the files' table, or of the column.
abbrev pub Explains : Job → Inputs → List ℕ → List ℕ → RunFault → Type 0
Explains job inputs before after NoMemory = ⊤
Explains job inputs before after (OfFile file fault) = ExplainsFile job.workers inputs before after file fault
Explains job inputs before after (QueryUnread f) = FailedQuery job.command f.kind f.path
Explains job inputs before after (QueryRefused f) = RefusesQuery job inputs f
Explains job inputs before after (OfColumn f) = ExplainsColumn job f

-- ---- which fault it tells: the first that it meets. It reads the query, the column's field and each source in order, loads the files, adds the column and answers the query.

-- The command's query is read, where it has one.
abbrev pub IsQueryRead : Command → Type 0
IsQueryRead (Query source output) = (query : QueryShape (List ℕ)) × ReadsQueryText (text_of_query source) query
IsQueryRead command = ⊤

-- Each source before this place gives a file, and none of them failed in this call.
pub record GiveFiles (inputs : Inputs) (before after : List ℕ) (place : ℕ) : Type 0 where
  pub files : List FileData
  pub read : AreRead (take place inputs) files
  pub unfailed : take place after ≡ take place before

-- All sources give files, which so many workers load.
pub record AreLoaded (workers : ℕ) (inputs : Inputs) : Type 0 where
  pub files : List FileData
  pub read : AreRead inputs files
  pub history : History
  pub loaded : IsLoaded workers (map batches_with_fields files) (table_fields files) history

-- What is read before the fault of a file is met: the sources before it; no source failed where a batch is refused.
abbrev pub IsFirstOfFiles : Inputs → List ℕ → List ℕ → ℕ → FileFault → Type 0
IsFirstOfFiles inputs before after file (Refused number refusal) = after ≡ before
IsFirstOfFiles inputs before after file fault = GiveFiles inputs before after file

-- Nothing that comes before this fault has one. What isn't touched before any source is read stays as it is (`still`). Want of memory may come at any point.
abbrev pub IsFirst : Job → Inputs → List ℕ → List ℕ → Type 0 → RunFault → Type 0
IsFirst job inputs before after still NoMemory = ⊤
IsFirst job inputs before after still (QueryUnread f) = still
IsFirst job inputs before after still (OfColumn (Unread f)) = IsQueryRead job.command × still
IsFirst job inputs before after still (OfFile file fault) = IsQueryRead job.command × IsColumnRead job × IsFirstOfFiles inputs before after file fault
IsFirst job inputs before after still (OfColumn (column.Refused fault)) = IsQueryRead job.command × AreLoaded job.workers inputs × (after ≡ before)
IsFirst job inputs before after still (QueryRefused f) = after ≡ before

-- It is the fault of a file, has a cause, and is the first.
abbrev pub IsOfFiles : ℕ → Inputs → List ℕ → List ℕ → RunFault → Type 0
IsOfFiles workers inputs before after fault =
    (file : ℕ) × (f : FileFault) × (fault ≡ OfFile file f) × ExplainsFile workers inputs before after file f × IsFirstOfFiles inputs before after file f

-- Why a run ends with status 1, and the line that the error sink then took: that sink failed; the output failed; or a fault has a cause and is the first, and the output is untouched.
abbrev pub Excuse : Job → Inputs → List ℕ → List ℕ → Type 0 → ℕ → ℕ → ℕ → ℕ → Option (List ℕ) → Option (List ℕ) → Type 0
Excuse job inputs before after still out_old out_new err_old err_new old new =
    (err_old < err_new)
    ⊎ (((out_old < out_new) × Appends old new output_line)
    ⊎ ((fault : RunFault) × (line : List ℕ) × Explains job inputs before after fault × IsFirst job inputs before after still fault
    × IsLineOf (names_of job.names.items) fault line × (out_new ≡ out_old) × Appends old new line))
