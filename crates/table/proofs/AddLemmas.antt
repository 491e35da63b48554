-- Why no column of a field is added, and what a field is of which one is.
use Rattle.std.proofs.Common.{◌≡◌, ◌∙◌, ℕ, ◌≤◌, List, [], ◌∷◌, ◌++◌, ◌||◌, not, nat_lt, position, Bool, true, false, Option, None, Some, option_map, ap, sym, refl, le-ltb}
use Rattle.std.specs.Bool.{then_some}
use Rattle.std.specs.List.{list_any}
use Rattle.std.specs.Option.{option_or}
use Rattle.std.proofs.lemmas.Bool.{ltb-false, not-false}
use Rattle.std.proofs.lemmas.List.Folds.{list_any-append}
use Rattle.pool.proofs.PlaceLemmas.{among_missing}
use Rattle.arrays.specs.Prelude.{Field, FieldShape, SchemaFault, Shape, depth, field, field_of, field_step, first, fold_out-Field, has_dict_in_list, holds_dict, is_deep, is_nullable, kind_of, kind_of_field, out-Field, schema_fault, shape_step}
use Rattle.arrays.specs.SchemaFaults.{TooDeep as SchemaDeep, DictInList as SchemaDict}
use Rattle.arrays.proofs.FirstLemmas.{first-none, then_some-none}
use Rattle.arrays.proofs.ShapeLemmas.{kind_of_field-field_of}
use Rattle.table.specs.Prelude.{add_fault, stored_field}
use Rattle.table.specs.declared.add_fault.AddFault.{AddFault}
use Rattle.table.specs.declared.add_fault.AddFault.TheVariants.{DictInList, NotNullable, TooDeep}
use Rattle.arrays.proofs.BatchLemmas.{missing}
use Rattle.table.proofs.StoredLemmas.{same_deep, same_dict}

-- ---- what is reported

abbrev pub faults : Bool → Bool → Bool → Option AddFault
faults nullable deep dict = first (then_some (not nullable) NotNullable ∷ then_some deep TooDeep ∷ then_some dict DictInList ∷ [])

nullable-of : (f : Field) → is_nullable (field_of f) ≡ (out-Field f).nullable
nullable-of f = ap is_nullable (fold_out-Field Shape FieldShape shape_step field_step f)

pub faults-are : (f : Field) (nullable deep dict : Bool) → (out-Field f).nullable ≡ nullable → nat_lt 8 (depth (kind_of (out-Field f).ty)) ≡ deep → has_dict_in_list (kind_of (out-Field f).ty) ≡ dict
    → faults nullable deep dict ≡ add_fault (field_of f)
faults-are f nullable deep dict is_so is_deep has_dict =
    ap (λ b. faults b deep dict) (sym (nullable-of f ∙ is_so))
    ∙ ap (λ b. faults (is_nullable (field_of f)) b dict) (sym (ap (λ k. nat_lt 8 (depth k)) (kind_of_field-field_of f) ∙ is_deep))
    ∙ ap (λ b. faults (is_nullable (field_of f)) (nat_lt 8 (depth (kind_of_field (field_of f)))) b) (sym (ap has_dict_in_list (kind_of_field-field_of f) ∙ has_dict))

-- ---- where nothing is reported

pub record Fits (f : FieldShape) : Type 0 where
  pub nullable : is_nullable f ≡ true
  pub depth : depth (kind_of_field f) ≤ 8
  pub no_dict : has_dict_in_list (kind_of_field f) ≡ false

fits : (f : FieldShape) → add_fault f ≡ None → Fits f
fits f none =
    let a = first-none (then_some (not (is_nullable f)) NotNullable) (then_some (nat_lt 8 (depth (kind_of_field f))) TooDeep ∷ then_some (has_dict_in_list (kind_of_field f)) DictInList ∷ []) none in
    let b = first-none (then_some (nat_lt 8 (depth (kind_of_field f))) TooDeep) (then_some (has_dict_in_list (kind_of_field f)) DictInList ∷ []) a.1 in
    let c = first-none (then_some (has_dict_in_list (kind_of_field f)) DictInList) [] b.1 in
    record {
      nullable = not-false (is_nullable f) (then_some-none (not (is_nullable f)) NotNullable a.0);
      depth = ltb-false 8 (depth (kind_of_field f)) (then_some-none (nat_lt 8 (depth (kind_of_field f))) TooDeep b.0);
      no_dict = then_some-none (has_dict_in_list (kind_of_field f)) DictInList c.0;
    }

same_nullable : (f : FieldShape) → is_nullable (stored_field f) ≡ is_nullable f
same_nullable (field name nullable ty) = refl

-- the stored field fits too
pub fits-stored : (f : FieldShape) → add_fault f ≡ None → Fits (stored_field f)
fits-stored f none =
    fits (stored_field f)
    (ap (λ b. faults b (is_deep (stored_field f)) (holds_dict (stored_field f))) (same_nullable f)
    ∙ ap (λ b. faults (is_nullable f) b (holds_dict (stored_field f))) (same_deep f)
    ∙ ap (λ b. faults (is_nullable f) (is_deep f) b) (same_dict f)
    ∙ none)

-- ---- the field behind the others

nowhere : {A : Type 0} (p : A → Bool) (xs : List A) (y : A) → position p xs ≡ None → p y ≡ false → position p (xs ++ y ∷ []) ≡ None
nowhere p xs y none fails =
    missing p (xs ++ y ∷ []) (list_any-append p xs (y ∷ []) ∙ ap (λ b. b || list_any p (y ∷ [])) (among_missing p xs none) ∙ ap (λ b. b || false) fails)

abbrev fault_at : Option ℕ → Option ℕ → Option SchemaFault
fault_at deep dict = option_or (option_map (λ c. SchemaDeep c) deep) (option_map (λ c. SchemaDict c) dict)

neither-fault : (deep dict : Option ℕ) → fault_at deep dict ≡ None → (deep ≡ None) × (dict ≡ None)
neither-fault None None none = (refl, refl)
neither-fault None (Some l) none = absurd cc
neither-fault (Some d) l none = absurd cc

-- a schema with a field more that fits is one
pub schema-wider : (fields : List FieldShape) (f : FieldShape) → schema_fault fields ≡ None → depth (kind_of_field f) ≤ 8 → has_dict_in_list (kind_of_field f) ≡ false → schema_fault (fields ++ f ∷ []) ≡ None
schema-wider fields f lawful shallow no_dict =
    let parts = neither-fault (position is_deep fields) (position holds_dict fields) lawful in
    ap (λ d. fault_at d (position holds_dict (fields ++ f ∷ []))) (nowhere is_deep fields f parts.0 (le-ltb 8 (depth (kind_of_field f)) shallow))
    ∙ ap (λ l. fault_at None l) (nowhere holds_dict fields f parts.1 no_dict)
