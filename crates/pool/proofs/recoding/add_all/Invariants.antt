use Rattle.pool.specs.Places.{AreKnown}
use Rattle.pool.proofs.RecodeLemmas.{Recoded}
use Rattle.pool.proofs.recoding.add_all.Given as goal

abbrev pub invariant-loop-i : goal.invariant-loop-i
invariant-loop-i l = record { recoded : Recoded l.fn.pool l.fn.view.items l.i l.pool l.codes; known : AreKnown l.pool l.fn.view.entries.items l.known.items }
