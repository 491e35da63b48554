-- The columns of lawful batches under the fields of a file.
use Rattle.std.proofs.Common.{◌≡◌, ◌∙◌, ℕ, ◌<◌, List, [], ◌∷◌, length, map, get_or, Bool, true, false, not, ◌||◌, None, Some, refl, sym, subst, ap, ap₂, true≢false, arith}
use Rattle.std.proofs.lemmas.List.{get_or-map, length-map}
use Rattle.std.proofs.lemmas.Option.{get_or_from_slice_get, slice_get-get_or, slice_get_within}
use Rattle.std.specs.Prelude.{slice_get}
use Rattle.std.specs.List.{All, list_any, zip}
use Rattle.arrays.proofs.ChildLemmas.{same_kinds}
use Rattle.arrays.proofs.ShapeLemmas.{kind_of_field-field_of}
use Rattle.arrays.specs.Prelude.{AreBatchesOf, Batch, Field, FieldShape, Kind, Seen, batch_fault, field_of, fields_of, kind_of, kind_of_field, kinds_of, out-Field, same_kind}
use Rattle.arrays.specs.Kind.{dict}
use Rattle.arrays.proofs.BatchLemmas.{whole, wrong_kind}
use Rattle.json_base.specs.JsonTable.{items_of, table_of}
use Rattle.json_print.specs.Prelude.{IsEncodedAt, column_at, has_dictionary, is_encoded}

-- ---- kinds

abbrev kinds : List Seen → List Kind
kinds columns = map (λ c. c.kind) columns

pub neither : (a b : Bool) → (not a || b) ≡ false → (a ≡ true) × (b ≡ false)
neither true b h = (refl, h)
neither false b h = absurd (true≢false h)

same_each : (columns : List Seen) (fields : List FieldShape) → length columns ≡ length fields → list_any wrong_kind (zip columns fields) ≡ false → kinds columns ≡ kinds_of fields
same_each [] [] long none = refl
same_each [] (f ∷ fields) long none = absurd cc
same_each (c ∷ columns) [] long none = absurd cc
same_each (c ∷ columns) (f ∷ fields) long none =
    let parts = neither (same_kind c.kind (kind_of_field f)) (list_any wrong_kind (zip columns fields)) none in
    let rest : length columns ≡ length fields = cc in
    ap₂ (λ k ks. k ∷ ks) (same_kinds c.kind (kind_of_field f) parts.0) (same_each columns fields rest parts.1)

-- A lawful batch has a column of the kind of each field.
pub lawful_length : (fields : List FieldShape) (n : ℕ) (columns : List Seen) → batch_fault fields n columns ≡ None → length columns ≡ length fields
lawful_length fields n columns lawful = (whole fields n columns lawful).count

pub lawful_kinds : (fields : List FieldShape) (n : ℕ) (columns : List Seen) → batch_fault fields n columns ≡ None → kinds columns ≡ kinds_of fields
lawful_kinds fields n columns lawful =
    same_each columns fields (lawful_length fields n columns lawful) (whole fields n columns lawful).kinds

-- The kind of one column.
pub kind_at : (columns : List Seen) (fields : List Field) (i : ℕ) (c : Seen) (f : Field) → kinds columns ≡ kinds_of (fields_of fields) → i < length columns → i < length fields
    → c ≡ get_or columns i c → f ≡ get_or fields i f → c.kind ≡ kind_of (out-Field f).ty
kind_at columns fields i c f same there here is_c is_f =
    let d = kind_of_field (field_of f) in
    ap (λ (x : Seen). x.kind) is_c ∙ sym (get_or-map (λ (x : Seen). x.kind) columns i c d there) ∙ ap (λ ks. get_or ks i d) same
    ∙ get_or-map kind_of_field (fields_of fields) i (field_of f) d (omega (arith, length-map fields field_of, here))
    ∙ ap kind_of_field (get_or-map field_of fields i f (field_of f) here ∙ ap field_of (sym is_f)) ∙ kind_of_field-field_of f

-- A dictionary-encoded column at a place.
pub encoded_within : (columns : List Seen) (fields : List FieldShape) (place : ℕ) → kinds columns ≡ kinds_of fields → slice_get (kinds_of fields) place ≡ Some dict → place < length columns
encoded_within columns fields place same is =
    omega (arith, slice_get_within (kinds_of fields) place dict is, ap (λ (ks : List Kind). length ks) same, length-map columns (λ c. c.kind))

pub encoded_kind : (columns : List Seen) (fields : List FieldShape) (place : ℕ) (c : Seen) → kinds columns ≡ kinds_of fields → slice_get (kinds_of fields) place ≡ Some dict
    → place < length columns → c ≡ get_or columns place c → c.kind ≡ dict
encoded_kind columns fields place c same is within is_c =
    ap (λ (x : Seen). x.kind) is_c ∙ sym (get_or-map (λ (x : Seen). x.kind) columns place c dict within) ∙ ap (λ ks. get_or ks place dict) same
    ∙ get_or_from_slice_get (kinds_of fields) place dict dict is

-- The items of one column.
pub column_at-read : (b : Batch) (columns : List Seen) (place : ℕ) (c : Seen) → columns ≡ b.columns → place < length columns → c ≡ get_or columns place c → c.items ≡ column_at place (table_of b)
column_at-read b columns place c same within is_c =
    ap (λ (x : Seen). x.items) is_c ∙ sym (get_or-map (λ (x : Seen). x.items) columns place c [] within) ∙ ap (λ cs. get_or (items_of cs) place []) same

-- In each batch of a file the column of a dictionary-encoded field is one.
pub encoded_all : (fields : List Field) (batches : List Batch) (place : ℕ) (f : Field) → AreBatchesOf (fields_of fields) batches → place < length fields → f ≡ get_or fields place f
    → kind_of (out-Field f).ty ≡ dict → All (IsEncodedAt place) batches
encoded_all fields batches place f same within is_f is k d here =
    let shape = field_of f in
    let there : place < length (fields_of fields) = subst (λ n. place < n) (sym (length-map fields field_of)) within in
    let one : get_or (kinds_of (fields_of fields)) place dict ≡ dict =
    get_or-map kind_of_field (fields_of fields) place shape dict there
    ∙ ap kind_of_field (get_or-map field_of fields place f shape within ∙ ap field_of (sym is_f)) ∙ kind_of_field-field_of f ∙ is in
    let size : place < length (kinds_of (fields_of fields)) = subst (λ n. place < n) (sym (length-map (fields_of fields) kind_of_field)) there in
    ap (λ ks. slice_get ks place) (same k (get_or batches k d) (slice_get-get_or batches k d here))
    ∙ slice_get-get_or (kinds_of (fields_of fields)) place dict size ∙ ap (λ x. Some x) one

-- ---- batches of a file

-- The kinds of one batch.
pub types_at : {A : Type 0} (f : A → Batch) (fields : List FieldShape) (xs : List A) (i : ℕ) (x : A) → AreBatchesOf fields (map f xs) → i < length xs → x ≡ get_or xs i x
    → kinds_of (f x).fields ≡ kinds_of fields
types_at f fields xs i x same within is =
    same i (f x) (slice_get-get_or (map f xs) i (f x) (subst (λ n. i < n) (sym (length-map xs f)) within) ∙ ap (λ b. Some b) (get_or-map f xs i x (f x) within ∙ ap f (sym is)))

-- Whether there is a dictionary, read from the fields or from their shapes.
pub has_dictionary-fields : (fields : List Field) → has_dictionary (fields_of fields) ≡ list_any (λ f. is_encoded (kind_of (out-Field f).ty)) fields
has_dictionary-fields [] = refl
has_dictionary-fields (f ∷ fields) = ap₂ (λ a b. a || b) (ap is_encoded (kind_of_field-field_of f)) (has_dictionary-fields fields)
