-- What a view shows of its array.
use Rattle.std.proofs.Common.{◌≡◌, ◌+◌, ◌≤◌, map, length, None, option_map, arith}
use Rattle.std.specs.Arc.{arc_value}
use Rattle.layout.specs.Prelude.{checked_texts, reading}
use Rattle.arrays.specs.Prelude.{read_view, show_view, view_kind}
use Rattle.arrays.specs.declared.view.View.TheInside.{Inside}
use Rattle.layout.proofs.SeenLemmas.{length-slice, length-items, seen-kind}

pub length-show_view : (v : Inside) → v.start + v.len ≤ v.total → length (show_view v).items ≡ v.len
length-show_view v h =
    length-slice (read_view v).seen.items v.start v.len (omega (arith, length-items (view_kind v.ty) v.total None v.buffers.now (map reading v.children.now) (option_map checked_texts (option_map (λ w. arc_value w.now) v.words))))

pub kind-show_view : (v : Inside) → (show_view v).kind ≡ view_kind v.ty
kind-show_view v = seen-kind (view_kind v.ty) v.total None v.buffers.now (map reading v.children.now) (option_map checked_texts (option_map (λ w. arc_value w.now) v.words))
