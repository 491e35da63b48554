-- Batches one after another.
use Rattle.std.proofs.Common.{◌≡◌, ◌∙◌, ◌+◌, ◌<◌, List, [], ◌∷◌, ◌++◌, length, map, Option, Some, sym, ap, subst, arith, length-append}
use Rattle.std.proofs.lemmas.List.{map-append}
use Rattle.std.proofs.lemmas.Option.{slice_get_within}
use Rattle.arrays.specs.Prelude.{Batch, FieldShape}
use Rattle.json_read.specs.Prelude.{Coding, Data, ReadsBatch, ReadsFirst, Table, get_item, no_items, table_of}
use Rattle.json_read.proofs.JsonItems.{first_pushed, slice_get-front, slice_get-last}
use Rattle.json_read.proofs.JsonFiles.{AreUnder-push}
use Rattle.json_scan.specs.Spelling.{before}
use Rattle.json_stream.proofs.SlotLemmas.{get_item-before}
use Rattle.json_file.specs.Batches.{AreBatches}

-- what is read of the first items is read of them also where one more follows
first_kept : {A : Type 0} (R : Data → A → Type 0) (ds : List Data) (d : Data) (xs : List A) → ReadsFirst R (before ds no_items) (length ds) xs → ReadsFirst R (before (ds ++ d ∷ []) no_items) (length ds) xs
first_kept R ds d xs h = record {
  len = h.len;
  each = λ i e x found got.
      let within : i < length ds = omega (arith, slice_get_within xs i x got, h.len) in
      h.each i e x (get_item-before ds i ∙ (sym (slice_get-front ds (d ∷ []) i within) ∙ (sym (get_item-before (ds ++ d ∷ []) i) ∙ found))) got;
}

pub one_more : {A : Type 0} (R : Data → A → Type 0) (ds : List Data) (d : Data) (xs : List A) (x : A) → ReadsFirst R (before ds no_items) (length ds) xs → R d x → ReadsFirst R (before (ds ++ d ∷ []) no_items) (length (ds ++ d ∷ [])) (xs ++ x ∷ [])
one_more R ds d xs x h r =
    let at : get_item (length ds) (before (ds ++ d ∷ []) no_items) ≡ Some d = get_item-before (ds ++ d ∷ []) (length ds) ∙ slice_get-last ds d in
    let many : length ds + 1 ≡ length (ds ++ d ∷ []) = omega (arith, length-append ds (d ∷ [])) in
    subst (λ n. ReadsFirst R (before (ds ++ d ∷ []) no_items) n (xs ++ x ∷ [])) many (first_pushed R (before (ds ++ d ∷ []) no_items) (length ds) xs d x (first_kept R ds d xs h) at r)

pub batches_more : (fields gs : List FieldShape) (catalog cs : List (Option Coding)) (ds : List Data) (d : Data) (old new : List Batch) (b : Batch) → gs ≡ fields → cs ≡ catalog → AreBatches fields catalog ds old
    → b.fields ≡ gs → ReadsBatch gs cs d (table_of b) → new ≡ old ++ b ∷ [] → AreBatches fields catalog (ds ++ d ∷ []) new
batches_more fields gs catalog cs ds d old new b same coded h under reads grown =
    let R : Data → Table → Type 0 = ReadsBatch fields catalog in
    let one : R d (table_of b) = subst (λ c. ReadsBatch fields c d (table_of b)) coded (subst (λ fs. ReadsBatch fs cs d (table_of b)) same reads) in
    let tables : map table_of new ≡ map table_of old ++ table_of b ∷ [] = ap (map table_of) grown ∙ map-append table_of old (b ∷ []) in
    record {
      read = subst (λ xs. ReadsFirst R (before (ds ++ d ∷ []) no_items) (length (ds ++ d ∷ [])) xs) (sym tables) (one_more R ds d (map table_of old) (table_of b) h.read one);
      under = AreUnder-push fields old new b h.under (under ∙ same) grown;
    }
