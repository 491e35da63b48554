use Rattle.std.proofs.Common.{◌∙◌, ◌+◌, ◌∷◌, ◌++◌, [], ap, refl, arith, length, length-append, sym}
use Rattle.std.specs.Option.{option_copied}
use Rattle.types.specs.OffsetSize.{is_full}
use Rattle.arrays.specs.Prelude.{item_of_text, text_bytes, text_items}
use Rattle.arrays.proofs.ExtendedLemmas.{front_full, full_of_all, items_more, length-text_items}
use Rattle.arrays.proofs.builder.texts.TextBuilder.extended_by_slots.Goals as goal

pub push-requires : goal.push-requires
push-requires c =
    let t = c.args.texts.now in
    let old = c.args.self.items in
    record {
      room = omega (
        arith,
        c.requires.room,
        c.loop-i-test.true,
        ap length c.loop-i.invariant.items,
        length-append old (text_items t.offsets t.bytes.now t.validity c.loop-i.i),
        length-text_items t.offsets t.bytes.now t.validity c.loop-i.i,
      );
    }

pub returns-in_err-push-clause-err : goal.returns-in_err-push-clause-err
returns-in_err-push-clause-err c =
    let t = c.args.texts.now in
    let i = c.loop-i.i in
    let old = c.args.self.items in
    let now = c.loop-i.all.items in
    let o = option_copied c.get.result in
    let front = items_more t.offsets t.bytes.now t.validity i old now (now ++ item_of_text o ∷ []) o c.loop-i.invariant.items c.get.ensures.value refl in
    full_of_all c.from_residual.result c.in_err-push.field-0.0 _ _ c.from_residual.ensures.1 c.in_err-push.ensures.fault
    (λ full. front_full c.args.self.width t.offsets t.bytes.now t.validity t.slots (i + 1) old (omega (arith, c.loop-i-test.true))
    (ap (λ xs. is_full c.args.self.width (text_bytes xs)) (sym front) ∙ ap (λ w. is_full w (text_bytes (now ++ item_of_text o ∷ []))) (sym c.loop-i.invariant.width) ∙ full))

pub loop-i-preserved : goal.loop-i-preserved
loop-i-preserved c =
    let t = c.args.texts.now in
    record {
      width = c.in_ok-push.ensures.width ∙ c.loop-i.invariant.width;
      items = items_more t.offsets t.bytes.now t.validity c.loop-i.i c.args.self.items c.loop-i.all.items c.push.new.self.items (option_copied c.get.result) c.loop-i.invariant.items c.get.ensures.value c.in_ok-push.ensures.ok;
    }
