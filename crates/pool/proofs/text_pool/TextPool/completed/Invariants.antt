use Rattle.std.proofs.Common.{◌≡◌, take, map}
use Rattle.arrays.specs.Prelude.{Narrow, text}
use Rattle.pool.proofs.text_pool.TextPool.completed.Given as goal

abbrev pub invariant-loop-code : goal.invariant-loop-code
invariant-loop-code l = record {
  width : l.texts.width ≡ Narrow;
  items : l.texts.items ≡ map text (take l.code l.fn.self);
}
