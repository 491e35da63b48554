use Rattle.std.proofs.Common.{◌≡◌, Some, ap, sym, subst, rules}
use Rattle.std.specs.List.{All}
use Rattle.arrays.specs.Kind as kind
use Rattle.arrays.specs.Prelude.{item_kind, kind_of}
use Rattle.json_print.specs.Slots.{AreOf}
use Rattle.json_print.proofs.column.+columns.Goals as goal

pub write_lists-write_children-requires : goal.write_lists-write_children-requires
write_lists-write_children-requires t c =
    let k = kind_of c.args.list.1.now.ty in
    let kinds : AreOf (kind.lists c.args.list.0 k) c.args.columns.now = search rules in
    let inner : All (λ s. item_kind s.kind ≡ Some k) c.args.columns.now = λ i d here. ap item_kind (kinds i d here) in
    (search rules, subst (AreOf k) (sym c.deref.ensures.value) (c.in_ok-lists.ensures.kinds k inner))
