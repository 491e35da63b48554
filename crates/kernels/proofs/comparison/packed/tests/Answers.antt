use Rattle.std.proofs.Common.{◌+◌, ◌∙◌, ◌==◌, ℕ, not, ap, arith, length-set}
use Rattle.std.specs.Int.{from_bool, w128}
use Rattle.std.proofs.lemmas.Int.{to_z-of_z}
use Rattle.std.specs.Ordering.{int_cmp}
use Rattle.kernels.proofs.NumberLemmas.{FitsSigned-from_range}
use Rattle.kernels.proofs.PackedLemmas.{flag_is, flags_more}
use Rattle.kernels.proofs.comparison.packed.tests.Goals as goal

pub loop-j-preserved : goal.loop-j-preserved
loop-j-preserved g c =
    let f = λ (k : ℕ). g.T.Test.holds (int_cmp (g.A.Side.number c.args.a.now (c.args.i + k)) (g.B.Side.number c.args.b.now (c.args.i + k))) in
    let x = to_z-of_z w128 c.at.result (FitsSigned-from_range c.at.result c.at.ensures.low c.at.ensures.high) ∙ c.at.ensures.value in
    let y = to_z-of_z w128 c.at-in-loop-j.result (FitsSigned-from_range c.at-in-loop-j.result c.at-in-loop-j.ensures.low c.at-in-loop-j.ensures.high) ∙ c.at-in-loop-j.ensures.value in
    let is = c.of.ensures ∙ (λ k. g.T.Test.holds (int_cmp (x k) (y k))) in
    record {
      size = length-set c.loop-j.flags c.loop-j.j c.from.result ∙ c.loop-j.invariant.size;
      flags = flags_more f c.loop-j.flags c.loop-j.j c.from.result (omega arith) (c.from.ensures ∙ ap from_bool is) c.loop-j.invariant.flags;
    }

pub returns : goal.returns
returns g c j below = c.word_of.ensures j below ∙ ap (λ n. not (n == 0)) (c.loop-j.invariant.flags j (omega arith)) ∙ flag_is _
