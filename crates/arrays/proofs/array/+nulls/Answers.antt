use Rattle.std.proofs.Common.{◌∙◌, ap, sym}
use Rattle.std.proofs.lemmas.Result.{IfOk-weaker}
use Rattle.types.specs.declared.data_type.Field.{out-Field}
use Rattle.types.specs.Kind.{kind_of}
use Rattle.layout.specs.Seen.{Seen}
use Rattle.arrays.proofs.NullLemmas.{null_lists, nulls_kind, same_item}
use Rattle.arrays.proofs.array.+nulls.Goals as goal

pub nulls::null_lists-finish-requires-clause-kind : goal.nulls::null_lists-finish-requires-clause-kind
nulls::null_lists-finish-requires-clause-kind t c =
    same_item c.in_ok-copy.field-0 c.args.item.now c.in_ok-copy.ensures
    ∙ sym (nulls_kind (kind_of (out-Field c.args.item.now).ty) 0)
    ∙ sym (ap (λ (s : Seen). s.kind) c.in_ok-items.ensures)

pub nulls::null_lists-returns : goal.nulls::null_lists-returns
nulls::null_lists-returns t c =
    let slots = c.in_ok-null_slots.field-0 in
    IfOk-weaker c.finish.result _ _
    (λ a is. is ∙ null_lists slots.width c.args.width (kind_of (out-Field c.args.item.now).ty) c.args.len slots.lengths c.in_ok-items.items c.in_ok-null_slots.ensures.width c.in_ok-null_slots.ensures.slots c.in_ok-items.ensures)
    c.finish.ensures
