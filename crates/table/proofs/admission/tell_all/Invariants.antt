use Rattle.std.proofs.Common.{All, take}
use Rattle.arrays.specs.Prelude.{IsItemOf, Seen}
use Rattle.table.proofs.admission.tell_all.Given as goal

abbrev pub invariant-loop-column : goal.invariant-loop-column
invariant-loop-column l = All (λ (c : Seen). All (IsItemOf c.kind) c.items) (take l.column-index l.columns)
