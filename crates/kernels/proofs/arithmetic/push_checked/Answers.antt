use Rattle.std.proofs.Common.{sym, subst, refl}
use Rattle.arrays.specs.Prelude.{valid_in}
use Rattle.kernels.specs.Computed.{AreResults, result_at}
use Rattle.kernels.proofs.CheckedLemmas.{AreResults-word, least_bad, none_bad}
use Rattle.kernels.proofs.arithmetic.push_checked.Goals as goal

pub returns-then-bad-ne0-clause-err : goal.returns-then-bad-ne0-clause-err
returns-then-bad-ne0-clause-err g c =
    let ty = g.T.Integer.ty in
    let exact = result_at g.O.Operation.exact (g.A.Side.number c.args.a.now) (g.B.Side.number c.args.b.now) in
    least_bad ty exact (valid_in c.args.valid.now) c.args.start c.args.count c.in_ok-outside.outside c.valid_word.result _ c.requires.word c.in_ok-outside.ensures.outside c.valid_word.ensures refl
    c.if-bad-ne0.true c.valid_word.type_inv c.requires.before.of_type

pub returns-clause-ok : goal.returns-clause-ok
returns-clause-ok g c =
    let ty = g.T.Integer.ty in
    let exact = result_at g.O.Operation.exact (g.A.Side.number c.args.a.now) (g.B.Side.number c.args.b.now) in
    let valid = valid_in c.args.valid.now in
    subst (AreResults ty exact valid _) (sym c.in_ok-outside.ensures.numbers)
    (AreResults-word ty exact valid c.args.start c.args.count c.args.numbers.now.items c.requires.before
    (none_bad ty exact valid c.args.start c.args.count c.in_ok-outside.outside c.valid_word.result _ c.requires.word c.in_ok-outside.ensures.outside c.valid_word.ensures refl c.if-bad-ne0.false))
