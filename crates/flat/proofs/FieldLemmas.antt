-- The columns that nodes begin with.
use Rattle.std.proofs.Common.{◌≡◌, ◌∙◌, ◌+◌, ◌-◌, ℕ, zero, suc, List, [], ◌∷◌, Some, None, Bool, true, false, not, ap, drop, inl, inr, refl, subst, sym, arith}
use Rattle.std.specs.Bool.{then_some}
use Rattle.arrays.specs.Prelude.{DataType, Dict, Field, FieldShape, IntType, OffsetWidth, Shape, field_of, field_step, fold_out-DataType, map-DataType, outs-Dict, shape_of, shape_step}
use Rattle.arrays.specs.Shape as shape
use Rattle.flat.specs.Prelude.{Begins, IsCoded, content_of, dictionary_fault, field_named, is_dictionary}
use Rattle.flat.specs.declared.content.Content.TheVariants as content
use Rattle.flat.specs.declared.fault.FlatFault.TheVariants.{ChildrenDiffer}
use Rattle.flat.specs.declared.node.Node.{Node}

pub shape_of-Dict : shape_of Dict ≡ shape.dict
shape_of-Dict = fold_out-DataType Shape FieldShape shape_step field_step Dict ∙ ap (λ o. shape_step (map-DataType DataType Field Shape FieldShape shape_of field_of o)) outs-Dict

faultless : (column : ℕ) (b : Bool) → then_some (not b) (ChildrenDiffer column) ≡ None → b ≡ true
faultless column true h = refl
faultless column false h = cc

coded_by : (column : ℕ) (n : Node) (behind : List Node) (t : IntType) (f : FieldShape) → content_of n ≡ Some (content.Codes t) → dictionary_fault column behind ≡ None → f ≡ field_named n shape.dict
    → IsCoded n behind f (drop 1 behind)
coded_by column n [] t f holds none named = cc
coded_by column n (d ∷ rest) t f holds none named = record { indices = t; holds = holds; dictionary = d; texts = faultless column (is_dictionary (content_of d)) none; field = named; next = refl }

-- indices with their dictionary
pub begins_coded : (levels column : ℕ) (nodes behind : List Node) (n : Node) (t : IntType) (f : FieldShape) → (levels ≡ 0 → ⊥) → nodes ≡ n ∷ behind → content_of n ≡ Some (content.Codes t)
    → dictionary_fault column behind ≡ None → f ≡ field_named n shape.dict → Begins levels nodes f (drop 2 nodes)
begins_coded zero column nodes behind n t f some is holds none named = absurd (some refl)
begins_coded (suc levels) column nodes behind n t f some is holds none named =
    subst (λ (l : List Node). Begins (suc levels) l f (drop 2 l)) (sym is) (inr (inl (coded_by column n behind t f holds none named)))

-- lists over the column behind them
pub begins_listed : (levels taken : ℕ) (nodes behind : List Node) (n : Node) (w : OffsetWidth) (item f : FieldShape) → (levels ≡ 0 → ⊥) → nodes ≡ n ∷ behind → content_of n ≡ Some (content.Lists w)
    → Begins (levels - 1) behind item (drop taken behind) → f ≡ field_named n (shape.lists w item) → Begins levels nodes f (drop (taken + 1) nodes)
begins_listed zero taken nodes behind n w item f some is holds begins named = absurd (some refl)
begins_listed (suc levels) taken nodes behind n w item f some is holds begins named =
    let inner : Begins levels behind item (drop taken behind) = subst (λ (k : ℕ). Begins k behind item (drop taken behind)) (omega arith) begins in
    let one : suc taken ≡ taken + 1 = omega arith in
    subst (λ (l : List Node). Begins (suc levels) l f (drop (taken + 1) l)) (sym is)
    (subst (λ (k : ℕ). Begins (suc levels) (n ∷ behind) f (drop k (n ∷ behind))) one (inr (inr (item, inner, record { width = w; holds = holds; field = named }))))
