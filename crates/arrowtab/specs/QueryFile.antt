-- A job whose query is in a file, and what reading it comes to.
use Rattle.std.specs.Prelude.{◌≡◌, ◌<◌, ℕ, List, MatchOption, Option, Some, IfSome, Vec}
use Rattle.std.specs.Io.KnownBytes.{Appends}
use Rattle.std.specs.declared.alloc.Global.{Global}
use Rattle.ends.specs.Line.{memory_line}
use Rattle.job.specs.Jobs.{file_of_query, with_query_text}
use Rattle.job.specs.declared.jobs.Job.{Job}
use Rattle.reports.specs.Lines.{unread_line}

-- The other job is this one with the bytes of a source, where it tells them, for the text of its query. A job without a query's file stays.
abbrev pub HasRead : Job → Option (List ℕ) → Job → Type 0
HasRead job input read =
    MatchOption (file_of_query job.command) (read ≡ job)
    (λ name. (text : Vec ℕ Global) × IfSome input (λ bytes. text.items ≡ bytes) × (read ≡ record job { command = with_query_text text job.command }))

-- Why the file of a job's query isn't read, and the line that the error sink then took.
pub data UnreadQuery (job : Job) (failed failures err_old err_new : ℕ) (old new : Option (List ℕ)) : Type 0 where
  -- the error sink failed
  error_failed : err_old < err_new → UnreadQuery job failed failures err_old err_new old new
  no_memory : Appends old new memory_line → UnreadQuery job failed failures err_old err_new old new
  -- the file's source failed in this call
  source_failed : (name : List ℕ) → file_of_query job.command ≡ Some name → failed < failures → Appends old new (unread_line name)
      → UnreadQuery job failed failures err_old err_new old new
