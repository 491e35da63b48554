-- Columns one after another, and the batch that they make.
use Rattle.std.proofs.Common.{◌≡◌, ◌∙◌, ℕ, ◌<◌, List, [], ◌∷◌, ◌++◌, length, get_or, map, Option, Some, option_map, refl, sym, ap, subst, arith, length-append, below_more}
use Rattle.std.specs.List.{slice_get}
use Rattle.std.proofs.lemmas.Option.{slice_get_within}
use Rattle.arrays.specs.Prelude.{Field, FieldShape, Seen, field_of, fields_of, kind_of, kind_of_field, out-Field}
use Rattle.arrays.proofs.ShapeLemmas.{kind_of_field-field_of}
use Rattle.json_read.specs.Prelude.{Coding, Data, HoldsTop, coding_of}
use Rattle.json_read.proofs.JsonItems.{slice_get-front, slice_get-last}
use Rattle.json_read.specs.declared.catalog.Coding as reader
use Rattle.json_read.proofs.JsonBatches.{field_at, coding_at}
use Rattle.json_stream.specs.Columns.{AreReadColumns}

pub no_columns : (fields : List FieldShape) (catalog : List (Option Coding)) (columns : List Seen) → columns ≡ [] → AreReadColumns fields catalog [] columns
no_columns fields catalog columns none =
    subst (λ cs. AreReadColumns fields catalog [] cs) (sym none) record { len = refl; within = omega arith; coded = omega arith; each = λ i f c d s field coding found got. absurd cc }

-- the same columns by another name of the fields and of the catalog
pub columns_known : (fields gs : List FieldShape) (catalog cs : List (Option Coding)) (ds : List Data) (columns : List Seen) → fields ≡ gs → catalog ≡ cs → AreReadColumns fields catalog ds columns → AreReadColumns gs cs ds columns
columns_known fields gs catalog cs ds columns same coded h = subst (λ c. AreReadColumns gs c ds columns) coded (subst (λ fs. AreReadColumns fs catalog ds columns) same h)

moved : (f g : FieldShape) (b c : Option Coding) (d e : Data) (s t : Seen) → HoldsTop (kind_of_field f) b (length s.items) d s → Some f ≡ Some g → Some b ≡ Some c → Some d ≡ Some e → Some s ≡ Some t
    → HoldsTop (kind_of_field g) c (length t.items) e t
moved f g b c d e s t h p q r u =
    let to_g : f ≡ g = cc in
    let to_c : b ≡ c = cc in
    let to_e : d ≡ e = cc in
    let to_t : s ≡ t = cc in
    subst (λ x. HoldsTop (kind_of_field x) c (length t.items) e t) to_g
    (subst (λ x. HoldsTop (kind_of_field f) x (length t.items) e t) to_c (subst (λ x. HoldsTop (kind_of_field f) b (length t.items) x t) to_e (subst (λ x. HoldsTop (kind_of_field f) b (length x.items) d x) to_t h)))

columns_more : (fields : List FieldShape) (catalog : List (Option Coding)) (ds : List Data) (columns : List Seen) (f : FieldShape) (b : Option Coding) (d : Data) (s : Seen) → AreReadColumns fields catalog ds columns
    → slice_get fields (length ds) ≡ Some f → slice_get catalog (length ds) ≡ Some b → HoldsTop (kind_of_field f) b (length s.items) d s → AreReadColumns fields catalog (ds ++ d ∷ []) (columns ++ s ∷ [])
columns_more fields catalog ds columns f b d s h at_field at_coding column = record {
  len = omega (arith, length-append columns (s ∷ []), length-append ds (d ∷ []), h.len);
  within = omega (arith, length-append ds (d ∷ []), slice_get_within fields (length ds) f at_field);
  coded = omega (arith, length-append ds (d ∷ []), slice_get_within catalog (length ds) b at_coding);
  each = λ i g c e t field coding found got.
      below_more
      (λ k. (g : FieldShape) (c : Option Coding) (e : Data) (t : Seen) → slice_get fields k ≡ Some g → slice_get catalog k ≡ Some c → slice_get (ds ++ d ∷ []) k ≡ Some e → slice_get (columns ++ s ∷ []) k ≡ Some t
      → HoldsTop (kind_of_field g) c (length t.items) e t)
      (length ds)
      (λ k within g c e t field coding found got. h.each k g c e t field coding (sym (slice_get-front ds (d ∷ []) k within) ∙ found) (sym (slice_get-front columns (s ∷ []) k (omega (arith, h.len))) ∙ got))
      (λ g c e t field coding found got. moved f g b c d e s t column (sym at_field ∙ field) (sym at_coding ∙ coding) (sym (slice_get-last ds d) ∙ found)
      (sym (slice_get-last columns s) ∙ (ap (slice_get (columns ++ s ∷ [])) h.len ∙ got)))
      i (omega (arith, slice_get_within (ds ++ d ∷ []) i e found, length-append ds (d ∷ []))) g c e t field coding found got;
}

-- the column of the field behind those before it
pub column_taken : (fs : List Field) (cs : List (Option reader.Coding)) (ds : List Data) (columns : List Seen) (n : ℕ) (f : Field) (b : Option reader.Coding) (d : Data) (s : Seen)
    → AreReadColumns (fields_of fs) (map (option_map coding_of) cs) ds columns → n ≡ length columns → n < length fs → f ≡ get_or fs n f → n < length cs → b ≡ get_or cs n b
    → HoldsTop (kind_of (out-Field f).ty) (option_map coding_of b) (length s.items) d s → AreReadColumns (fields_of fs) (map (option_map coding_of) cs) (ds ++ d ∷ []) (columns ++ s ∷ [])
column_taken fs cs ds columns n f b d s h many at_field is_field at_coding is_coding column =
    let here = sym (many ∙ h.len) in
    let field : slice_get (fields_of fs) (length ds) ≡ Some (field_of f) = ap (slice_get (fields_of fs)) here ∙ field_at fs n f at_field is_field in
    let coding : slice_get (map (option_map coding_of) cs) (length ds) ≡ Some (option_map coding_of b) = ap (slice_get (map (option_map coding_of) cs)) here ∙ coding_at cs n b at_coding is_coding in
    columns_more (fields_of fs) (map (option_map coding_of) cs) ds columns (field_of f) (option_map coding_of b) d s h field coding
    (subst (λ k. HoldsTop k (option_map coding_of b) (length s.items) d s) (sym (kind_of_field-field_of f)) column)

-- the only column is that of the only value
pub column_alone : (f : FieldShape) (b : Option Coding) (ds : List Data) (s : Seen) → AreReadColumns (f ∷ []) (b ∷ []) ds (s ∷ []) → (d : Data) × (ds ≡ d ∷ []) × HoldsTop (kind_of_field f) b (length s.items) d s
column_alone f b [] s h = absurd (omega (arith, h.len))
column_alone f b (d ∷ []) s h = (d, refl, h.each 0 f b d s refl refl refl refl)
column_alone f b (d ∷ e ∷ ds) s h = absurd (omega (arith, h.len))
