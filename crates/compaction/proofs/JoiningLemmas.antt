-- Columns of several batches as one.
use Rattle.std.proofs.Common.{◌≡◌, ◌∙◌, inl, inr, ℕ, ◌+◌, ◌≤◌, ◌<◌, List, [], ◌∷◌, ◌++◌, length, map, take, All, Bool, true, false, Option, None, Some, get_or, ap, sym, refl, subst, arith, length-append}
use Rattle.std.specs.Prelude.{flat_map}
use mathlib.Core.List.{IsPrefix}
use Rattle.std.proofs.lemmas.Bool.{or_from, true≢false}
use Rattle.std.proofs.lemmas.List.{append-nil, map-append, take_more}
use Rattle.std.proofs.lemmas.List.Elements.{All-append, All-map, All-tail}
use Rattle.std.proofs.lemmas.List.Sums.{list_all-from_AllPass}
use Rattle.arrays.proofs.DictionaryLemmas.{all-looked, code-longer}
use Rattle.arrays.proofs.ListArrays.{same_kind-refl}
use Rattle.arrays.specs.Prelude.{Item, Seen, codes_of, encoded, int32, is_code, is_past, joined_items, looked_up, same_kind}
use Rattle.arrays.specs.Kind as kind
use Rattle.select.specs.Prelude.{IsEncoded, IsSelectFault, concat_fault, is_joined_too_big, joined, kind_of_first}
use Rattle.select.specs.declared.fault.SelectFault.{SelectFault}
use Rattle.select.specs.declared.fault.SelectFault.TheVariants.{NoMemory}
use Rattle.select.proofs.JoinLemmas.{fault-of}
use Rattle.select.proofs.JoinedCodes.{length-codes-of}
use Rattle.compaction.specs.Columns.{AreJoinable, IsJoined}
use Rattle.arrays.proofs.ChildLemmas.{same_kinds}

-- ---- what can't be refused

pub no-fault : (columns : List Seen) → All (λ (s : Seen). s.kind ≡ kind_of_first columns) columns → concat_fault columns ≡ None
no-fault columns kinds =
    let k = kind_of_first columns in
    fault-of columns k true refl
    (sym (list_all-from_AllPass (λ (s : Seen). same_kind s.kind k) columns (λ i d below. ap (λ j. same_kind j k) (kinds i d below) ∙ same_kind-refl k)))

pub memory-only : (all : Option SelectFault) (full : Bool) (reported : SelectFault) → all ≡ None → full ≡ false → IsSelectFault all all full reported → reported ≡ NoMemory
memory-only all full reported none fits is =
    elim is [
      | inl h ↦ let never : ◌≡◌ {A = Option SelectFault} None (Some reported) = sym none ∙ h in absurd (cc never)
      | inr rest ↦ elim rest [ inl h ↦ h.0 | inr h ↦ absurd (true≢false (sym h.1.1 ∙ fits)) ]
    ]

-- ---- codes of a longer dictionary

-- The codes of all columns.
abbrev pub all_codes : List Seen → List Item
all_codes columns = flat_map (λ (s : Seen). s.codes) columns

pub codes-looked : (words : List Item) (columns : List Seen) → All IsEncoded columns → All (λ (s : Seen). IsPrefix s.entries.items words) columns → map (looked_up words) (all_codes columns) ≡ joined_items columns
codes-looked words [] are fronts = refl
codes-looked words (s ∷ columns) are fronts =
    let this : IsEncoded s = are 0 s (omega arith) in
    let front : IsPrefix s.entries.items words = fronts 0 s (omega arith) in
    map-append (looked_up words) s.codes (all_codes columns)
    ∙ ap (λ l. map (looked_up l) s.codes ++ map (looked_up words) (all_codes columns)) (sym front.1)
    ∙ ap (λ l. l ++ map (looked_up words) (all_codes columns)) (all-looked s.entries.items front.0 s.codes this.within ∙ sym this.items)
    ∙ ap (λ l. s.items ++ l) (codes-looked words columns (All-tail IsEncoded s columns are) (All-tail (λ (c : Seen). IsPrefix c.entries.items words) s columns fronts))

pub codes-within : (words : List Item) (columns : List Seen) → All IsEncoded columns → All (λ (s : Seen). IsPrefix s.entries.items words) columns → All (λ c. is_code (length words) c ≡ true) (all_codes columns)
codes-within words [] are fronts = λ k d below. absurd (omega (arith, below))
codes-within words (s ∷ columns) are fronts =
    let this : IsEncoded s = are 0 s (omega arith) in
    let front : IsPrefix s.entries.items words = fronts 0 s (omega arith) in
    let le : length s.entries.items ≤ length words = omega (arith, length-append s.entries.items front.0, ap (λ (l : List Item). length l) front.1) in
    All-append (λ c. is_code (length words) c ≡ true) s.codes (all_codes columns)
    (λ k d below. code-longer (length s.entries.items) (length words) (get_or s.codes k d) le (this.within k d below))
    (codes-within words columns (All-tail IsEncoded s columns are) (All-tail (λ (c : Seen). IsPrefix c.entries.items words) s columns fronts))

pub length-all_codes : (columns : List Seen) → All IsEncoded columns → length (all_codes columns) ≡ length (joined_items columns)
length-all_codes [] are = refl
length-all_codes (s ∷ columns) are =
    omega (
      arith,
      length-append s.codes (all_codes columns),
      length-append s.items (joined_items columns),
      length-codes-of s (are 0 s (omega arith)),
      length-all_codes columns (All-tail IsEncoded s columns are),
    )

-- ---- codes as columns of their own

pub joined-codes_of : (columns : List Seen) → joined_items (map codes_of columns) ≡ all_codes columns
joined-codes_of [] = refl
joined-codes_of (s ∷ columns) = ap (λ l. s.codes ++ l) (joined-codes_of columns)

pub kind-codes_of : (columns : List Seen) → 1 ≤ length columns → kind_of_first (map codes_of columns) ≡ kind.int int32
kind-codes_of [] some = absurd (omega (arith, some))
kind-codes_of (s ∷ columns) some = refl

pub kinds-codes_of : (columns : List Seen) → 1 ≤ length columns → All (λ (s : Seen). s.kind ≡ kind_of_first (map codes_of columns)) (map codes_of columns)
kinds-codes_of columns some = All-map (λ (s : Seen). s.kind ≡ kind_of_first (map codes_of columns)) codes_of columns (λ k d below. sym (kind-codes_of columns some))

pub fits-codes_of : (columns : List Seen) → 1 ≤ length columns → All IsEncoded columns → is_past (length (joined_items columns)) ≡ false
    → is_joined_too_big (kind_of_first (map codes_of columns)) (map codes_of columns) ≡ false
fits-codes_of columns some are few =
    ap (λ k. is_joined_too_big k (map codes_of columns)) (kind-codes_of columns some)
    ∙ or_from (is_past (length (joined_items (map codes_of columns)))) false
    (ap (λ (l : List Item). is_past (length l)) (joined-codes_of columns) ∙ ap is_past (length-all_codes columns are) ∙ few) refl

-- ---- one column of several

pub encoded-joined : (words : Seen) (columns : List Seen) (codes c : Seen) → AreJoinable (Some words) columns → All IsEncoded columns
    → codes ≡ joined (kind_of_first (map codes_of columns)) (map codes_of columns) → c ≡ encoded codes words → IsJoined (Some words) columns c
encoded-joined words columns codes c are each is made =
    let shows : codes.items ≡ all_codes columns =
    ap (λ (s : Seen). s.items) (is ∙ ap (λ k. joined k (map codes_of columns)) (kind-codes_of columns are.some)) ∙ joined-codes_of columns in
    record {
      kind = ap (λ (s : Seen). s.kind) made ∙ sym (same_kinds (kind_of_first columns) kind.dict (sym are.encoded));
      items = ap (λ (s : Seen). s.items) made ∙ ap (map (looked_up words.items)) shows ∙ codes-looked words.items columns each are.fronts;
      front = subst (λ (s : Seen). IsPrefix s.entries.items words.items) (sym made) ([], append-nil words.items);
    }

pub codes-named : (words : Seen) (columns : List Seen) (codes : Seen) → AreJoinable (Some words) columns → All IsEncoded columns
    → codes ≡ joined (kind_of_first (map codes_of columns)) (map codes_of columns) → All (λ c. is_code (length words.items) c ≡ true) codes.items
codes-named words columns codes are each is =
    let shows : codes.items ≡ all_codes columns =
    ap (λ (s : Seen). s.items) (is ∙ ap (λ k. joined k (map codes_of columns)) (kind-codes_of columns are.some)) ∙ joined-codes_of columns in
    subst (All (λ c. is_code (length words.items) c ≡ true)) (sym shows) (codes-within words.items columns each are.fronts)

pub codes-kind : (columns : List Seen) (codes : Seen) → 1 ≤ length columns → codes ≡ joined (kind_of_first (map codes_of columns)) (map codes_of columns) → codes.kind ≡ kind.int int32
codes-kind columns codes some is = ap (λ (s : Seen). s.kind) (is ∙ ap (λ k. joined k (map codes_of columns)) (kind-codes_of columns some))

pub dict-kinds : (words : Seen) (columns : List Seen) → AreJoinable (Some words) columns → All (λ (s : Seen). s.kind ≡ kind.dict) columns
dict-kinds words columns are = λ k d below. are.kinds k d below ∙ same_kinds (kind_of_first columns) kind.dict (sym are.encoded)

-- ---- loops over views

-- the codes of one view more
pub codes-more : (columns : List Seen) (k : ℕ) (s c : Seen) (old new : List Seen) → k < length columns → s ≡ get_or columns k s → c ≡ codes_of s → old ≡ map codes_of (take k columns)
    → new ≡ old ++ c ∷ [] → new ≡ map codes_of (take (k + 1) columns)
codes-more columns k s c old new below is made before pushed =
    pushed
    ∙ ap (λ l. l ++ c ∷ []) before
    ∙ ap (λ x. map codes_of (take k columns) ++ x ∷ []) (made ∙ ap codes_of is)
    ∙ sym (map-append codes_of (take k columns) (get_or columns k s ∷ []))
    ∙ ap (map codes_of) (sym (take_more columns k s below))
