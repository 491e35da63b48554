use Rattle.std.proofs.Common.{◌∙◌, ◌++◌, ◌∷◌, [], false, length, ap, arith, cond, unwrap_or}
use Rattle.arrays.specs.Growing.{bools_where}
use Rattle.layout.specs.Item.{null, boolean}
use Rattle.arrays.proofs.GrowingLemmas.{length-bools_where, bools_where-push, bool_slot}
use Rattle.arrays.proofs.builder.bools.BoolBuilder.push.Goals as goal

pub push-requires : goal.push-requires
push-requires c =
    let s = c.self.inside in
    record { room = omega (arith, length-bools_where s.values s.valid, ap length c.self.view_is) }

pub push-requires-2 : goal.push-requires-2
push-requires-2 c =
    let s = c.self.inside in
    record { room = omega (arith, length-bools_where s.values s.valid, ap length c.self.view_is) }

pub returns-in-Ok-clause-ok : goal.returns-in-Ok-clause-ok
returns-in-Ok-clause-ok c =
    let s = c.self.inside in
    let v = c.unwrap_or.result in
    let b = c.is_some.result in
    let item = ap (λ v. cond b (boolean v) null) c.unwrap_or.ensures ∙ ap (λ b. cond b (boolean (unwrap_or c.args.value false)) null) c.is_some.ensures ∙ bool_slot c.args.value in
    ap (λ values. bools_where values c.push-2.new.self) c.in_ok-push.ensures.ok
    ∙ ap (bools_where (s.values ++ v ∷ [])) c.in-Ok.ensures.ok
    ∙ bools_where-push s.values s.valid v b c.self.invariant
    ∙ ap (λ items. items ++ cond b (boolean v) null ∷ []) c.self.view_is
    ∙ ap (λ x. c.args.self.now ++ x ∷ []) item
