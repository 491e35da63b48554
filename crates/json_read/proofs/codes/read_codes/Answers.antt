use Rattle.std.proofs.Common.{◌≡◌, ◌∙◌, length, map, ap, subst}
use Rattle.std.specs.Arc.{arc_value}
use Rattle.arrays.specs.Prelude.{Seen, looked_up}
use Rattle.json_read.specs.Prelude.{HoldsCodes, flags_in, values_in}
use Rattle.json_read.proofs.JsonCodes.{codes_read}
use Rattle.json_read.proofs.codes.read_codes.Goals as goal

pub returns-in-Ok-clone-clause-ok : goal.returns-in-Ok-clone-clause-ok
returns-in-Ok-clone-clause-ok c =
    let words = arc_value c.args.words.now in
    let texts : c.view-texts.result.items ≡ words.items = ap (λ (s : Seen). s.items) c.view-texts.ensures.value ∙ ap (λ (s : Seen). s.items) c.deref.ensures in
    let named : (arc_value c.in-Ok-clone.words).items ≡ words.items = ap (λ (s : Seen). s.items) c.in-Ok-clone.ensures.cases in
    let shown : c.dict.result.items ≡ map (looked_up words.items) c.in_ok-codes.codes.items =
    ap (λ (s : Seen). s.items) c.dict.ensures
    ∙ (ap (λ xs. map (looked_up xs) c.in-Ok.codes.items) named ∙ ap (map (looked_up words.items)) c.in-Ok.ensures.items) in
    let wrapper = subst (λ xs. HoldsCodes c.args.ty xs (flags_in c.in_ok-slots.slots) (values_in c.in_ok-slots.slots) (length c.in_ok-slots.slots.values.now) c.in_ok-codes.codes) texts c.in_ok-codes.ensures.ok in
    codes_read c.args.ty words.items c.args.count _ _ _ _ _ _ wrapper c.in_ok-slots.ensures.given c.in_ok-slots.ensures.whole shown
