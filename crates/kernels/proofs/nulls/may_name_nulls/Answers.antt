use Rattle.std.proofs.Common.{false, refl, slice_index_or}
use Rattle.arrays.specs.Prelude.{boolean, int, list, list_of, number_at, of_slot, text}
use Rattle.kernels.proofs.NullLemmas.{holds_valid}
use Rattle.kernels.proofs.nulls.may_name_nulls.Goals as goal

pub returns-in-Int : goal.returns-in-Int
returns-in-Int c = λ h. holds_valid (λ j. int (number_at c.in-Int.ty c.numbers.result.now j)) c.args.view.now c.numbers.ensures.numbers (λ j. refl)

pub returns-in-Bool : goal.returns-in-Bool
returns-in-Bool c = λ h. holds_valid (λ j. boolean (slice_index_or c.bool_bits.result j false)) c.args.view.now c.bool_bits.ensures.values (λ j. refl)

pub returns-in-Text : goal.returns-in-Text
returns-in-Text c = λ h. holds_valid (λ j. text (of_slot c.texts.result.offsets c.texts.result.bytes.now j)) c.args.view.now c.texts.ensures.texts.texts (λ j. refl)

pub returns-in-List : goal.returns-in-List
returns-in-List c = λ h.
    holds_valid (λ j. list (list_of (of_slot c.lists.result.offsets c.lists.result.child.items j))) c.args.view.now c.lists.ensures.value.lists (λ j. refl)
