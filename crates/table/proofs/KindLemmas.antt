-- The kinds of types that are dictionaries, and of those that aren't.
use Rattle.std.proofs.Common.{◌≡◌, ◌∙◌, false, ap, refl}
use Rattle.arrays.specs.Kind as kind
use Rattle.arrays.specs.Prelude.{Bool, DataType, Dict, Field, Int, Kind, LargeList', LargeUtf8, List', Utf8, fold-Field, fold_out-DataType, kind_of, kind_step, map-DataType, outs-Dict, same_kind}
use Rattle.arrays.proofs.ShapeLemmas.{kind_of-Bool, kind_of-Int, kind_of-LargeList, kind_of-LargeUtf8, kind_of-List, kind_of-Utf8}

pub kind_of-Dict : kind_of Dict ≡ kind.dict
kind_of-Dict =
    fold_out-DataType Kind Kind kind_step (λ f. f.ty) Dict
    ∙ ap (λ o. kind_step (map-DataType DataType Field Kind Kind kind_of (fold-Field Kind Kind kind_step (λ f. f.ty)) o)) outs-Dict

pub no_dict : (t : DataType) → (t ≡ Dict → ⊥) → same_kind (kind_of t) kind.dict ≡ false
no_dict (Int i) h = ap (λ k. same_kind k kind.dict) (kind_of-Int i)
no_dict Bool h = ap (λ k. same_kind k kind.dict) kind_of-Bool
no_dict Utf8 h = ap (λ k. same_kind k kind.dict) kind_of-Utf8
no_dict LargeUtf8 h = ap (λ k. same_kind k kind.dict) kind_of-LargeUtf8
no_dict (List' b name nullable ty) h =
    ap (λ k. same_kind k kind.dict) (kind_of-List record { ptr = b.ptr; alloc = b.alloc; value = record { name = name; nullable = nullable; ty = ty } })
no_dict (LargeList' b name nullable ty) h =
    ap (λ k. same_kind k kind.dict) (kind_of-LargeList record { ptr = b.ptr; alloc = b.alloc; value = record { name = name; nullable = nullable; ty = ty } })
no_dict Dict h = absurd (h refl)
