use Rattle.std.proofs.Common.{◌≡◌, map, take}
use Rattle.job.specs.Jobs.{names_of}
use Rattle.job.proofs.reading.names_of.Given as goal

-- the names so far are those of the files so far
abbrev pub invariant-loop-file : goal.invariant-loop-file
invariant-loop-file l = names_of l.names.items ≡ map (λ file. file.now) (take l.file-index l.files)
