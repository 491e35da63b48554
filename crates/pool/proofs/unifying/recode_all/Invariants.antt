use Rattle.pool.proofs.UnifyLemmas.{Unified}
use Rattle.pool.proofs.unifying.recode_all.Given as goal

abbrev pub invariant-loop-view : goal.invariant-loop-view
invariant-loop-view l = Unified l.fn.views l.view-index l.pool l.codes.items
