-- Which job the words of the command line ask for, and why they ask for none. `clap` has functions of the words for both.
use Rattle.std.specs.Prelude.{◌≡◌, ◌≢◌, ◌<◌, ◌≤◌, ◌^◌, ℕ, Bool, List, [], ◌∷◌, length, count_by, map, Option, option_map, None, Some, false, ⊤, codes, string_bytes, String, Vec}
use Rattle.std.specs.Str.{bytes_eq}
use Rattle.std.specs.Str.Parse.{IsNumeral, digits_value, without_leading_plus}
use Rattle.std.specs.declared.alloc.Global.{Global}
use Rattle.clap.specs.Words.{IsAmong, Row, Text, all_of, fault_of, first_of, kind_of, one_of, subcommand_of, takes}
use Rattle.clap.specs.declared.error.Error.{Error}
use Rattle.clap.specs.declared.error.kind.ErrorKind.TheVariants.{OutOfMemory}
use Rattle.job.specs.CommandLine.{arrowtab}
use Rattle.job.specs.declared.jobs.Command.{Command}
use Rattle.job.specs.declared.jobs.Command.TheVariants.{Stats, Schema, Validate, Head, Export, Query}
use Rattle.job.specs.declared.jobs.Job.{Job}
use Rattle.job.specs.declared.jobs.Output.{Output}
use Rattle.job.specs.declared.jobs.Output.TheVariants.{Lines, Json, Csv}
use Rattle.job.specs.declared.jobs.QuerySource.{QuerySource}
use Rattle.job.specs.declared.jobs.QuerySource.TheVariants as query
use Rattle.job.specs.declared.fault.JobFault.{JobFault}
use Rattle.job.specs.declared.fault.JobFault.TheVariants.{Line, Unread, NoQuery, TwoQueries, UnknownOutput, InputTwice, NoMemory}

-- The word of a command.
abbrev pub word_of : Command → Text
word_of Stats = codes "stats"
word_of Schema = codes "schema"
word_of Validate = codes "validate"
word_of (Head rows) = codes "head"
word_of Export = codes "export"
word_of (Query source output) = codes "query"

-- The text is the number in decimal digits, with a plus before them or none.
abbrev pub IsNumber : Text → ℕ → Type 0
IsNumber text number = IsNumeral 10 (without_leading_plus text) × (digits_value 10 (without_leading_plus text) ≡ number)

-- The number is the value of this name.
abbrev pub HasNumber : Text → List Row → ℕ → Type 0
HasNumber name rows number = (text : Text) × (one_of name rows ≡ Some text) × IsNumber text number

-- The word of a form.
abbrev pub format_of : Output → Text
format_of Lines = codes "lines"
format_of Json = codes "json"
format_of Csv = codes "csv"

-- The form is the value of --output.
abbrev pub HasOutput : List Row → Output → Type 0
HasOutput rows output = first_of (codes "FORMAT") rows ≡ Some (format_of output)

abbrev pub HasNoOutput : List Row → Type 0
HasNoOutput rows = (output : Output) → HasOutput rows output → ⊥

-- The text of a query is the value of --query, or the name of its file that of --query-file, and there is no other.
abbrev pub HasQuery : List Row → QuerySource → Type 0
HasQuery rows (query.Text text) = (first_of (codes "QUERY") rows ≡ Some text.items) × (first_of (codes "QUERY_FILE") rows ≡ None)
HasQuery rows (query.File name) = (first_of (codes "QUERY") rows ≡ None) × (first_of (codes "QUERY_FILE") rows ≡ Some (string_bytes name))

abbrev pub HasNoQuery : List Row → Type 0
HasNoQuery rows = (first_of (codes "QUERY") rows ≡ None) × (first_of (codes "QUERY_FILE") rows ≡ None)

-- Both have a value.
abbrev pub HasTwoQueries : List Row → Type 0
HasTwoQueries rows = (text : Text) × (name : Text) × (first_of (codes "QUERY") rows ≡ Some text) × (first_of (codes "QUERY_FILE") rows ≡ Some name)

-- How many rows are printed is the value of -n, where a query is says HasQuery, and its form is the value of --output.
abbrev pub HasOwn : List Row → Command → Type 0
HasOwn rows Stats = ⊤
HasOwn rows Schema = ⊤
HasOwn rows Validate = ⊤
HasOwn rows (Head count) = HasNumber (codes "ROWS") rows count × (count < 2 ^ 64)
HasOwn rows Export = ⊤
HasOwn rows (Query source output) = HasQuery rows source × HasOutput rows output

-- The text of a column's field is the value of --add-column, where there is one.
abbrev pub HasAddedColumn : List Row → Option (String Global) → Type 0
HasAddedColumn rows column = option_map string_bytes column ≡ first_of (codes "FIELD") rows

-- The names of the files of a table.
abbrev pub names_of : List (String Global) → List Text
names_of names = map string_bytes names

-- The name of the file that a command's query is in, where it is in one.
abbrev pub file_of_query : Command → Option Text
file_of_query Stats = None
file_of_query Schema = None
file_of_query Validate = None
file_of_query (Head count) = None
file_of_query Export = None
file_of_query (Query (query.Text text) output) = None
file_of_query (Query (query.File name) output) = Some (string_bytes name)

-- The text of a query, which nothing is known of while it is in a file: none of its bytes is here.
abbrev pub text_of_query : QuerySource → Text
text_of_query (query.Text text) = text.items
text_of_query (query.File name) = []

-- The command with this text for its query, where it asks one.
abbrev pub with_query_text : Vec ℕ Global → Command → Command
with_query_text text Stats = Stats
with_query_text text Schema = Schema
with_query_text text Validate = Validate
with_query_text text (Head count) = Head count
with_query_text text Export = Export
with_query_text text (Query source output) = Query (query.Text text) output

-- The name `-` is standard input's. (POSIX.1-2017, Base Definitions, 12.2, Guideline 13)
abbrev pub is_standard_input : Text → Bool
is_standard_input name = bytes_eq name (codes "-")

-- The names with one before them, where there is one.
abbrev pub with_first : Option Text → List Text → List Text
with_first None names = names
with_first (Some name) names = name ∷ names

-- How many of the files that are read for a job, its query's and its table's, are standard input.
abbrev pub inputs_of : Job → ℕ
inputs_of job = count_by is_standard_input (with_first (file_of_query job.command) (names_of job.names.items))

-- The number of workers is the value of --workers.
abbrev pub HasWorkers : List Row → ℕ → Type 0
HasWorkers rows workers = HasNumber (codes "N") rows workers

-- What `clap` finds in the words is the command with what it has of its own, the names of the files, the number of workers, and the column.
pub record Finds (found : Option (Text × List Row)) (job : Job) : Type 0 where
  pub rows : List Row
  pub command : found ≡ Some (word_of job.command, rows)
  pub own : HasOwn rows job.command
  pub names : all_of (codes "FILE") rows ≡ Some (names_of job.names.items)
  pub workers : HasWorkers rows job.workers
  pub column : HasAddedColumn rows job.column

-- `clap` takes the words, and finds the job in them.
pub record Asks (words : List Text) (job : Job) : Type 0 where
  pub taken : fault_of arrowtab words ≡ []
  pub finds : Finds (subcommand_of arrowtab words) job

-- What running a job asks of it.
pub record IsReady (job : Job) : Type 0 where
  pub some : 0 < length job.names.items
  pub worker : 1 ≤ job.workers
  pub few : job.workers ≤ 64
  pub once : inputs_of job ≤ 1

-- `clap` doesn't take the words, and the error is of a kind that they give.
pub record RefusesWords (words : List Text) (error : Error) : Type 0 where
  pub refused : takes arrowtab words ≡ false
  pub kind : IsAmong (kind_of error) (fault_of arrowtab words)
  pub of_words : kind_of error ≢ OutOfMemory

-- Nothing that `clap` finds is a job that is ready to be run.
abbrev pub FindsNone : Option (Text × List Row) → Type 0
FindsNone found = (job : Job) → Finds found job → IsReady job → ⊥

-- A query is found of which this holds.
abbrev pub FindsQuery : Option (Text × List Row) → (List Row → Type 0) → Type 0
FindsQuery found is = (rows : List Row) × (found ≡ Some (codes "query", rows)) × is rows

-- A job is found that reads standard input twice.
abbrev pub FindsInputTwice : Option (Text × List Row) → Type 0
FindsInputTwice found = (job : Job) × Finds found job × (1 < inputs_of job)

-- Why the words ask for no job. Memory may run out at any words.
abbrev pub IsFaultOf : List Text → JobFault → Type 0
IsFaultOf words (Line error) = RefusesWords words error
IsFaultOf words Unread = (fault_of arrowtab words ≡ []) × FindsNone (subcommand_of arrowtab words)
IsFaultOf words NoQuery = (fault_of arrowtab words ≡ []) × FindsQuery (subcommand_of arrowtab words) HasNoQuery
IsFaultOf words TwoQueries = (fault_of arrowtab words ≡ []) × FindsQuery (subcommand_of arrowtab words) HasTwoQueries
IsFaultOf words UnknownOutput = (fault_of arrowtab words ≡ []) × FindsQuery (subcommand_of arrowtab words) HasNoOutput
IsFaultOf words InputTwice = (fault_of arrowtab words ≡ []) × FindsInputTwice (subcommand_of arrowtab words)
IsFaultOf words NoMemory = ⊤

-- ---- the same of what `clap` found, which is no error of `clap`

-- Why there is no job.
abbrev pub IsUnfound : Option (Text × List Row) → JobFault → Type 0
IsUnfound found (Line error) = ⊥
IsUnfound found Unread = FindsNone found
IsUnfound found NoQuery = FindsQuery found HasNoQuery
IsUnfound found TwoQueries = FindsQuery found HasTwoQueries
IsUnfound found UnknownOutput = FindsQuery found HasNoOutput
IsUnfound found InputTwice = FindsInputTwice found
IsUnfound found NoMemory = ⊤

-- Why there is no command: none of this word has what is its own.
abbrev pub IsNoCommand : Text → List Row → JobFault → Type 0
IsNoCommand word rows (Line error) = ⊥
IsNoCommand word rows Unread = (command : Command) → word ≡ word_of command → HasOwn rows command → ⊥
IsNoCommand word rows NoQuery = (word ≡ codes "query") × HasNoQuery rows
IsNoCommand word rows TwoQueries = (word ≡ codes "query") × HasTwoQueries rows
IsNoCommand word rows UnknownOutput = (word ≡ codes "query") × HasNoOutput rows
IsNoCommand word rows InputTwice = ⊥
IsNoCommand word rows NoMemory = ⊤

-- No number of workers is one that a job may have.
abbrev pub HasNoWorkers : List Row → Type 0
HasNoWorkers rows = (workers : ℕ) → HasWorkers rows workers → 1 ≤ workers → workers ≤ 64 → ⊥
