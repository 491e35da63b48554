use Rattle.std.proofs.Common.{map}
use Rattle.arrowtab.proofs.ReadLemmas.{ReadSoFar}
use Rattle.arrowtab.proofs.reading.read_files.Given as goal

-- Some sources are parsed, and the others so far are read.
abbrev pub invariant-loop-number : goal.invariant-loop-number
invariant-loop-number g l = ReadSoFar g.S.Source.remaining g.S.Source.failures l.fn.sources l.sources l.files.items (map (λ t. t.items) l.texts.items) l.number
