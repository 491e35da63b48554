-- What refuses a batch before its texts are looked at.
use Rattle.std.proofs.Common.{◌≡◌, ◌∙◌, ◌||◌, ℕ, ◌+◌, ◌-◌, ◌<◌, ◌≤◌, ◌^◌, List, [], ◌∷◌, length, map, not, Bool, true, false, cond, eqb, Option, Some, None, option_map, position, ap, ap₂, sym, refl, subst, arith, eq-eqb, lt-ltb, le-ltb}
use Rattle.std.specs.Prelude.{string_bytes}
use Rattle.std.specs.Bool.{then_some}
use Rattle.std.specs.List.{zip}
use Rattle.std.specs.Str.{bytes_eq}
use Rattle.std.proofs.lemmas.Bool.{ne_eqb}
use Rattle.arrays.specs.Prelude.{Batch, Field, FieldShape, Seen, Shape, Table, batch_fault, field_of, field_step, fields_of, first, fold_out-Field, kind_of, kind_of_field, name_of, out-Field, rows_of, same_kind, shape_step}
use Rattle.arrays.proofs.SchemaLemmas.{position-map}
use Rattle.arrays.proofs.ShapeLemmas.{kind_of_field-field_of}
use Rattle.table.specs.Prelude.{HasColumns, History, difference, differs, is_book_full, is_stored_as, is_table_full, null_cause, rows, stored_kind}
use Rattle.table.specs.declared.refusal.Refusal.{Refusal}
use Rattle.table.specs.declared.refusal.Refusal.TheVariants.{BookFull, TableFull}
use Rattle.table.proofs.BatchLemmas.{HasColumns-rows_of}
use Rattle.arrays.proofs.BatchLemmas.{length-rows_of}

-- ---- fields

named : (f : Field) → name_of (field_of f) ≡ string_bytes (out-Field f).name
named f = ap name_of (fold_out-Field Shape FieldShape shape_step field_step f)

pub differs-fields : (a b : Field) → differs (field_of a, field_of b) ≡ (not (bytes_eq (string_bytes (out-Field a).name) (string_bytes (out-Field b).name)) || not (is_stored_as (out-Field a).ty (out-Field b).ty))
differs-fields a b =
    let k = kind_of_field (field_of a) in
    let l = kind_of_field (field_of b) in
    ap (λ n. not (bytes_eq n (name_of (field_of b))) || not (same_kind k (stored_kind l))) (named a)
    ∙ ap (λ n. not (bytes_eq (string_bytes (out-Field a).name) n) || not (same_kind k (stored_kind l))) (named b)
    ∙ ap (λ j. not (bytes_eq (string_bytes (out-Field a).name) (string_bytes (out-Field b).name)) || not (same_kind j (stored_kind l))) (kind_of_field-field_of a)
    ∙ ap (λ j. not (bytes_eq (string_bytes (out-Field a).name) (string_bytes (out-Field b).name)) || not (same_kind (kind_of (out-Field a).ty) (stored_kind j))) (kind_of_field-field_of b)

zip-map : {A B : Type 0} (f : A → B) (xs ys : List A) → zip (map f xs) (map f ys) ≡ map (λ p. (f p.0, f p.1)) (zip xs ys)
zip-map f [] ys = refl
zip-map f (x ∷ xs) [] = refl
zip-map f (x ∷ xs) (y ∷ ys) = ap (λ l. (f x, f y) ∷ l) (zip-map f xs ys)

pub position-fields : (stored handed : List Field) → position differs (zip (fields_of stored) (fields_of handed)) ≡ position (λ p. differs (field_of p.0, field_of p.1)) (zip stored handed)
position-fields stored handed =
    ap (position differs) (zip-map field_of stored handed) ∙ position-map differs _ (λ (p : Field × Field). (field_of p.0, field_of p.1)) (λ p. refl) (zip stored handed)

-- what was found among fields is what there is among their shapes
pub found-fields : (stored handed : List FieldShape) (xs ys : List Field) (o : Option ℕ) → fields_of xs ≡ stored → fields_of ys ≡ handed
    → o ≡ position (λ p. differs (field_of p.0, field_of p.1)) (zip xs ys) → position differs (zip stored handed) ≡ o
found-fields stored handed xs ys o these those is =
    ap (λ l. position differs (zip l handed)) (sym these) ∙ ap (λ l. position differs (zip (fields_of xs) l)) (sym those) ∙ position-fields xs ys ∙ sym is

-- ---- the first difference

pub difference-some : (stored handed : List FieldShape) (c : ℕ) → position differs (zip stored handed) ≡ Some c → difference stored handed ≡ Some c
difference-some stored handed c is = ap (λ o. first (o ∷ (cond (eqb (length stored) (length handed)) None (Some (length (zip stored handed)))) ∷ [])) is

pub difference-same : (stored handed : List FieldShape) → position differs (zip stored handed) ≡ None → length stored ≡ length handed → difference stored handed ≡ None
difference-same stored handed none same =
    ap (λ o. first (o ∷ (cond (eqb (length stored) (length handed)) None (Some (length (zip stored handed)))) ∷ [])) none
    ∙ ap (λ b. first (None ∷ cond b None (Some (length (zip stored handed))) ∷ [])) (eq-eqb (length stored) (length handed) same)

pub difference-many : (stored handed : List FieldShape) (k : ℕ) → position differs (zip stored handed) ≡ None → (length stored ≡ length handed → ⊥) → length (zip stored handed) ≡ k
    → difference stored handed ≡ Some k
difference-many stored handed k none other size =
    ap (λ o. first (o ∷ (cond (eqb (length stored) (length handed)) None (Some (length (zip stored handed)))) ∷ [])) none
    ∙ ap (λ b. first (None ∷ cond b None (Some (length (zip stored handed))) ∷ [])) (ne_eqb (length stored) (length handed) other)
    ∙ ap (λ n. Some n) size

-- ---- one refusal after the other

pub first-one : (a : Option Refusal) → a ≡ first (a ∷ [])
first-one (Some x) = refl
first-one None = refl

-- what there is too many of
pub excess-by : (h : History) (t : Table) (full book : Bool) → is_table_full h t ≡ full → is_book_full h ≡ book
    → first (then_some full TableFull ∷ then_some book BookFull ∷ []) ≡ first (then_some (is_table_full h t) TableFull ∷ then_some (is_book_full h) BookFull ∷ [])
excess-by h t full book full_is book_is = ap₂ (λ p q. first (then_some p TableFull ∷ then_some q BookFull ∷ [])) (sym full_is) (sym book_is)

-- the first null of the columns is that of the batch's rows
pub nulls-reported : (fields given : List FieldShape) (b : Batch) (columns : List Seen) (o : Option Refusal) → batch_fault b.fields b.rows b.columns ≡ None → given ≡ fields → columns ≡ b.columns
    → ((t : Table) → HasColumns t columns → o ≡ null_cause given t) → o ≡ null_cause fields (rows_of b)
nulls-reported fields given b columns o lawful these those reported =
    reported (rows_of b) (subst (HasColumns (rows_of b)) (sym those) (HasColumns-rows_of b lawful)) ∙ ap (λ f. null_cause f (rows_of b)) these

pub table-full : (h : History) (b : Batch) → 2 ^ 40 < length (rows h) + b.rows → is_table_full h (rows_of b) ≡ true
table-full h b over = lt-ltb (2 ^ 40) (length (rows h) + length (rows_of b)) (omega (arith, over, length-rows_of b))

pub table-free : (h : History) (b : Batch) → length (rows h) + b.rows ≤ 2 ^ 40 → is_table_full h (rows_of b) ≡ false
table-free h b within = le-ltb (2 ^ 40) (length (rows h) + length (rows_of b)) (omega (arith, within, length-rows_of b))

pub book-full : (h : History) → length h ≡ 2 ^ 32 - 1 → is_book_full h ≡ true
book-full h full = eq-eqb (length h) (2 ^ 32 - 1) full

pub book-free : (h : History) → (length h ≡ 2 ^ 32 - 1 → ⊥) → is_book_full h ≡ false
book-free h free = ne_eqb (length h) (2 ^ 32 - 1) free
