use Rattle.std.specs.Prelude.{◌≡◌, ◌+◌, length}
use Rattle.shared.specs.Hand.{AreNew}
use Rattle.shared.proofs.worker.new_workers.Given as goal

abbrev pub invariant-loop-number : goal.invariant-loop-number
invariant-loop-number g l = (l.shares.calls.parts + l.number ≡ l.count) × (l.shares.rows.parts + l.number ≡ l.count) × (l.shares.columns.parts + l.number ≡ l.count) × (l.shares.calls.amount ≡ 0) × (l.shares.rows.amount ≡ 0) × (l.shares.columns.amount ≡ 0) × (length l.workers.items ≡ l.number) × AreNew g.N.Naming-1.fields 0 l.workers.items
