use Rattle.std.proofs.Common.{◌≡◌, [], replicate}
use Rattle.shared.proofs.opening.new_readers.Given as goal

abbrev pub invariant-loop-reader : goal.invariant-loop-reader
invariant-loop-reader g l = l.readers.items ≡ replicate l._reader (record { fields = g.N.Naming-1.fields; history = [] })
