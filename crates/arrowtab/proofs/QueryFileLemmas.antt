-- A job whose query is in a file.
use Rattle.std.proofs.Common.{◌≡◌, ℕ, ◌<◌, List, [], ◌∷◌, Option, Some, IfSome, Vec, Global, subst, sym}
use Rattle.std.specs.Prelude.{MatchOption}
use Rattle.std.proofs.lemmas.Option.{same_Some}
use Rattle.std.specs.Io.KnownBytes.{Appends}
use Rattle.ends.specs.Line.{TookLine, line_taken, memory_line, sink_failed}
use Rattle.job.specs.Jobs.{file_of_query, with_query_text}
use Rattle.job.specs.declared.jobs.Job.{Job}
use Rattle.reports.specs.declared.run_fault.FileFault.TheVariants.{CannotRead}
use Rattle.reports.specs.declared.run_fault.RunFault.TheVariants.{OfFile}
use Rattle.arrowtab.specs.Prelude.{HasRead, TookFault, UnreadQuery, built, error_failed, no_memory, not_built, source_failed}

-- a job has read the text of its query
pub has_read : (job read : Job) (input : Option (List ℕ)) (name : List ℕ) (text : Vec ℕ Global) → file_of_query job.command ≡ Some name → IfSome input (λ bytes. text.items ≡ bytes)
    → read ≡ record job { command = with_query_text text job.command } → HasRead job input read
has_read job read input name text is whole same =
    subst (λ (q : Option (List ℕ)). MatchOption q (read ≡ job) (λ n. (it : Vec ℕ Global) × IfSome input (λ bytes. it.items ≡ bytes) × (read ≡ record job { command = with_query_text it job.command }))) (sym is)
    (text, whole, same)

module _ (job : Job) (failed failures err_old err_new : ℕ) (old new : Option (List ℕ)) where
  pub unread_memory : TookLine memory_line err_old err_new old new → UnreadQuery job failed failures err_old err_new old new
  unread_memory (sink_failed h) = error_failed h
  unread_memory (line_taken h) = no_memory h

  pub unread_source : (name : List ℕ) → file_of_query job.command ≡ Some name → failed < failures → TookFault (name ∷ []) (OfFile 0 CannotRead) err_old err_new old new → UnreadQuery job failed failures err_old err_new old new
  unread_source name is more (built text line (sink_failed h)) = error_failed h
  unread_source name is more (built text line (line_taken h)) =
      source_failed name is more (subst (Appends old new) (rw (same_Some name line.0 line.1) line.2) h)
  unread_source name is more (not_built took) = unread_memory took
