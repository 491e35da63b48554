use Rattle.std.proofs.Common.{◌∙◌, None, ap, refl}
use Rattle.types.specs.declared.data_type.Field.{Field}
use Rattle.types.specs.Kind as kind
use Rattle.types.specs.Kind.{kind_of}
use Rattle.arrays.proofs.ListArrays.{own_over}
use Rattle.arrays.proofs.array.Array.raw_list.Goals as goal

pub returns-clause-own : goal.returns-clause-own
returns-clause-own c =
    let is_list = c.of_lists.ensures.kind ∙ ap (λ (f : Field). kind.lists c.args.slots.width (kind_of f.ty)) c.in_ok-new.ensures.ok in
    own_over c.args.slots.width record { ty = c.of_lists.result; length = c.from.result; null_count = None; buffers = c.in_ok-vec.field-0; children = c.in_ok-vec-2.field-0; dictionary = None }
    c.in_ok-into_raw.field-0 (kind_of c.args.item.ty) c.args.slots.len c.args.slots.validity c.args.slots.offsets c.args.child is_list c.from.ensures refl c.in_ok-vec.ensures.items c.in_ok-vec-2.ensures.items
    refl c.in_ok-into_raw.ensures
