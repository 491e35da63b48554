use Rattle.std.proofs.Common.{◌∙◌, ◌∷◌, ◌++◌, [], None, ap, arith, get_or, sym}
use Rattle.std.specs.Option.{option_copied}
use Rattle.std.proofs.lemmas.Bool.{or_right}
use Rattle.types.specs.declared.offset_width.OffsetWidth.TheVariants.{Narrow}
use Rattle.types.specs.OffsetSize.{is_full}
use Rattle.arrays.specs.Prelude.{item_of_text, text_bytes}
use Rattle.arrays.proofs.ExtendedLemmas.{full_of_all, full_taken}
use Rattle.arrays.proofs.array.Array.of_texts.Goals as goal

pub returns-in_err-push-clause-err : goal.returns-in_err-push-clause-err
returns-in_err-push-clause-err c =
    let texts = c.args.texts.now in
    let now = c.loop-text.builder in
    full_of_all c.from_residual-in_err-push.result c.in_err-push.field-0.0 _ _ c.from_residual-in_err-push.ensures.1 c.in_err-push.ensures.fault
    (λ full. or_right _ _ (full_taken (λ t. item_of_text (option_copied t)) texts c.loop-text.text-index None Narrow now.items (omega (arith, c.loop-text-test.true)) c.loop-text.invariant.items
    (ap (λ w. is_full w (text_bytes (now.items ++ item_of_text (option_copied (get_or texts c.loop-text.text-index None)) ∷ []))) (sym c.loop-text.invariant.width) ∙ full)))
