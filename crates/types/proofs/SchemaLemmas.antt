-- The first field that passes a test, read from the fields or from their shapes.
use Rattle.std.proofs.Common.{◌≡◌, ◌∙◌, ℕ, suc, ◌+◌, List, [], ◌∷◌, Bool, true, false, ◌&&◌, map, length, not, nat_lt, cond, Some, None, position, option_map, ap, refl, sym, rules, arith}
use Rattle.std.proofs.lemmas.List.{length-map}
use Rattle.std.specs.List.{position_or_len}
use Rattle.std.specs.Option.{option_or}
use Rattle.types.specs.declared.data_type.Field.{Field, out-Field}
use Rattle.types.specs.declared.schema.SchemaFault.TheVariants.{TooDeep, DictInList}
use Rattle.types.specs.Prelude.{Kind, depth, field_of, fields_of, has_dict_in_list, holds_dict, is_shallow_with_dict, kind_of, kind_of_field, schema_fault}
use Rattle.types.proofs.ShapeLemmas.{kind_of_field-field_of}

position_or_len-map : {A B : Type 0} (p : B → Bool) (q : A → Bool) (f : A → B) → ((x : A) → p (f x) ≡ q x) → (xs : List A) → position_or_len p (map f xs) ≡ position_or_len q xs
position_or_len-map p q f h [] = refl
position_or_len-map p q f h (x ∷ xs) = ap (λ b. cond (not b) (1 + position_or_len p (map f xs)) 0) (h x) ∙ ap (λ n. cond (not (q x)) (1 + n) 0) (position_or_len-map p q f h xs)

pub position-map : {A B : Type 0} (p : B → Bool) (q : A → Bool) (f : A → B) → ((x : A) → p (f x) ≡ q x) → (xs : List A) → position p (map f xs) ≡ position q xs
position-map p q f h xs =
    let at = position_or_len-map p q f h xs in
    ap (λ n. cond (nat_lt n (length (map f xs))) (Some n) None) at ∙ ap (λ m. cond (nat_lt (position_or_len q xs) m) (Some (position_or_len q xs)) None) (length-map xs f)

-- a test of the fields' kinds
pub position-fields : (test : Kind → Bool) (fields : List Field) → position (λ f. test (kind_of_field f)) (fields_of fields) ≡ position (λ f. test (kind_of (out-Field f).ty)) fields
position-fields test fields = position-map _ _ field_of (λ f. ap test (kind_of_field-field_of f)) fields

-- ---- where none is too deep, it's enough to look into those that aren't

at_head : (deep passes : Bool) (first len m n : ℕ) → nat_lt (cond (not deep) (1 + first) 0) (suc len) ≡ false → (nat_lt first len ≡ false → m ≡ n)
    → cond (not (not deep && passes)) (1 + m) 0 ≡ cond (not passes) (1 + n) 0
at_head true passes first len m n h e = absurd (search (rules, h))
at_head false passes first len m n h e = ap (λ k. cond (not passes) (1 + k) 0) (e (grind (arith, h)))

position_or_len-shallow : {A : Type 0} (deep test : A → Bool) (xs : List A) → nat_lt (position_or_len deep xs) (length xs) ≡ false
    → position_or_len (λ x. not (deep x) && test x) xs ≡ position_or_len test xs
position_or_len-shallow deep test [] h = refl
position_or_len-shallow deep test (x ∷ xs) h = at_head (deep x) (test x) (position_or_len deep xs) (length xs) _ _ h (position_or_len-shallow deep test xs)

none-at : (b : Bool) (n : ℕ) → cond b (Some n) None ≡ None → b ≡ false
none-at true n h = absurd (search (rules, h))
none-at false n h = refl

pub position-shallow : {A : Type 0} (deep test : A → Bool) (xs : List A) → position deep xs ≡ None → position (λ x. not (deep x) && test x) xs ≡ position test xs
position-shallow deep test xs h =
    ap (λ n. cond (nat_lt n (length xs)) (Some n) None) (position_or_len-shallow deep test xs (none-at _ _ h))

-- ---- the first fault

pub schema_fault-fields : (fields : List Field)
    → schema_fault (fields_of fields)
    ≡ option_or (option_map (λ c. TooDeep c) (position (λ f. nat_lt 8 (depth (kind_of (out-Field f).ty))) fields))
    (option_map (λ c. DictInList c) (position (λ f. has_dict_in_list (kind_of (out-Field f).ty)) fields))
schema_fault-fields fields =
    ap (λ p. option_or (option_map (λ c. TooDeep c) p) (option_map (λ c. DictInList c) (position holds_dict (fields_of fields)))) (position-fields (λ k. nat_lt 8 (depth k)) fields)
    ∙ ap (λ p. option_or (option_map (λ c. TooDeep c) (position (λ f. nat_lt 8 (depth (kind_of (out-Field f).ty))) fields)) (option_map (λ c. DictInList c) p)) (position-fields has_dict_in_list fields)

pub schema_fault-shallow : (fields : List Field) → position (λ f. nat_lt 8 (depth (kind_of (out-Field f).ty))) fields ≡ None
    → schema_fault (fields_of fields) ≡ option_map (λ c. DictInList c) (position (λ f. is_shallow_with_dict (kind_of (out-Field f).ty)) fields)
schema_fault-shallow fields h =
    schema_fault-fields fields
    ∙ ap (λ p. option_or (option_map (λ c. TooDeep c) p) (option_map (λ c. DictInList c) (position (λ f. has_dict_in_list (kind_of (out-Field f).ty)) fields))) h
    ∙ ap (λ p. option_map (λ c. DictInList c) p) (sym (position-shallow (λ f. nat_lt 8 (depth (kind_of (out-Field f).ty))) (λ f. has_dict_in_list (kind_of (out-Field f).ty)) fields h))

pub ruleset by_kinds = (schema_fault-fields, schema_fault-shallow)
