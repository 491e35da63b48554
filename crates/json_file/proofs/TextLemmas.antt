-- The texts that a dictionary's batch holds.
use Rattle.std.proofs.Common.{◌≡◌, ◌∙◌, List, [], ◌∷◌, ◌++◌, length, Option, Some, None, option_and_then, refl, sym, ap, subst}
use Rattle.arrays.specs.Prelude.{FieldShape, Narrow, Seen, kind_of_field, utf8}
use Rattle.json_read.specs.Prelude.{Data, HoldsColumn, Members, ReadsPlain, WrapsTexts, array, as_array, no_items, object, texts, wrapped}
use Rattle.json_scan.specs.Spelling.{before}
use Rattle.json_stream.specs.Prelude.{AreReadColumns, HasMembers}
use Rattle.json_stream.specs.declared.batch.BatchMembers.{BatchMembers}
use Rattle.json_stream.proofs.BatchLemmas.{column_alone}
use Rattle.json_stream.proofs.ColumnLemmas.{top_plain}
use Rattle.json_file.specs.Texts.{IsBatchOfTexts, AreAlone}

pub texts_read : (f : FieldShape) (ms : Members) (b : BatchMembers) (a : Seen) → kind_of_field f ≡ utf8 → HasMembers (f ∷ []) (None ∷ []) ms b → b.columns.items ≡ a ∷ [] → length a.items ≡ b.count → IsBatchOfTexts (object ms) a
texts_read f ms b a kind h one len =
    let alone = column_alone f None h.values a (subst (AreReadColumns (f ∷ []) (None ∷ []) h.values) one h.read) in
    let column = subst (λ k. HoldsColumn k (length a.items) alone.0 a) kind (top_plain (kind_of_field f) (length a.items) alone.0 a alone.2) in
    let reads : ReadsPlain (texts Narrow) b.count alone.0 a.items = subst (λ n. ReadsPlain (texts Narrow) n alone.0 a.items) len column.reads in
    let listed = h.listed ∙ ap (λ xs. Some (array (before xs no_items))) alone.1 in
    record { kind = column.kind; reads = record { n = b.count; count = h.count; column = alone.0; columns = ap (option_and_then as_array) listed; reads = reads } }

-- ---- the batch alone

pub batch_taken : (ds : List Data) (d : Data) (old : Option Seen) (a : Seen) → old ≡ None → AreAlone ds old → IsBatchOfTexts d a → AreAlone (ds ++ d ∷ []) (Some a)
batch_taken ds d old a none alone is =
    let nothing : ds ≡ [] = subst (AreAlone ds) none alone in
    (d, ap (λ xs. xs ++ d ∷ []) nothing, is)

pub batch_alone : (ds : List Data) (found : Option Seen) (a : Seen) → found ≡ Some a → AreAlone ds found → (a.kind ≡ utf8) × WrapsTexts (array (before ds no_items)) a.items
batch_alone ds found a is alone =
    let one = subst (AreAlone ds) is alone in
    (one.2.kind, subst (λ xs. WrapsTexts (array (before xs no_items)) a.items) (sym one.1) (wrapped one.0 refl one.2.reads))
