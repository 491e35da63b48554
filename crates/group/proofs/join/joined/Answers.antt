use Rattle.std.proofs.Common.{refl}
use Rattle.group.proofs.JoinedStats.{AreStats-append}
use Rattle.group.proofs.join.joined.Goals as goal

pub returns : goal.returns
returns c = λ k xs ys of_a of_b. AreStats-append _ c.args.a.now c.args.b.now k xs ys of_a of_b refl refl c.sum.ensures.value c.in_ok-lesser.ensures c.in_ok-greater.ensures
