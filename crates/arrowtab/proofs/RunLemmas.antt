-- A run's end, from what its parts came to.
use Rattle.std.proofs.Common.{◌≡◌, ℕ, List, length, Option, inl, inr, refl, arith}
use Rattle.std.proofs.lemmas.List.{length-map}
use Rattle.std.proofs.lemmas.Option.{slice_get_within}
use Rattle.std.proofs.lemmas.Slice.Zip.{AllZip-long}
use Rattle.job.specs.Jobs.{names_of}
use Rattle.job.specs.declared.jobs.Job.{Job}
use Rattle.reports.specs.FileBatches.{batches_with_fields}
use Rattle.ends.specs.Line.{line_taken, memory_line, sink_failed}
use Rattle.arrowtab.specs.Prelude.{Excuse, Explains, Inputs, IsFirst, IsOfFile, TookFault, built, not_built}
use Rattle.reports.specs.declared.run_fault.FileFault.TheVariants.{CannotRead, Json, Refused}
use Rattle.reports.specs.declared.run_fault.RunFault.{RunFault}
use Rattle.reports.specs.declared.run_fault.RunFault.TheVariants.{NoMemory, OfFile}

-- the file of a fault that has a cause is one of those that were read
pub named : (job : Job) (count : ℕ) (inputs : Inputs) (before after : List ℕ) (fault : RunFault) → length inputs ≡ count → length before ≡ count → Explains job inputs before after fault → IsOfFile count fault
named job count inputs before after (OfFile file CannotRead) same counts why = omega (arith, counts, slice_get_within before file why.failed why.first)
named job count inputs before after (OfFile file (Json f)) same counts why = omega (arith, same, slice_get_within inputs file why.input why.of_file)
named job count inputs before after (OfFile file (Refused number refusal)) same counts why =
    omega (arith, same, slice_get_within (_) file why.stopped.batches why.stopped.in_files, length-map why.files batches_with_fields, AllZip-long _ inputs why.files why.read)
named job count inputs before after fault same counts why = tt

module _ (job : Job) (inputs : Inputs) (before after : List ℕ) (still : Type 0) (out err_old err_new : ℕ) (old new : Option (List ℕ)) where
  pub excuse_reported : (fault : RunFault) → TookFault (names_of job.names.items) fault err_old err_new old new → Explains job inputs before after fault → IsFirst job inputs before after still fault
      → Excuse job inputs before after still out out err_old err_new old new
  excuse_reported fault (built text is (sink_failed h)) why first = inl h
  excuse_reported fault (built text is (line_taken h)) why first = inr (inr (fault, text, why, first, is, refl, h))
  excuse_reported fault (not_built (sink_failed h)) why first = inl h
  excuse_reported fault (not_built (line_taken h)) why first = inr (inr (NoMemory, memory_line, tt, tt, refl, refl, h))
