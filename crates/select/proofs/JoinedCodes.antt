-- Codes of dictionaries one after the other.
use Rattle.std.proofs.Common.{◌≡◌, ◌∙◌, ℕ, ◌+◌, ◌<◌, ◌≤◌, ℤ, pos, negsuc, List, [], ◌∷◌, ◌++◌, length, drop, map, true, Option, None, Some, ap, sym, refl, arith, subst, get_or, append_assoc, append-nil, length-append}
use Rattle.std.specs.Prelude.{All, slice_get}
use Rattle.std.specs.Option.{ForSome}
use Rattle.std.proofs.lemmas.Int.{ints}
use Rattle.std.proofs.lemmas.List.{drop_all, drop_more, get_or-append-add, length-map, map-append}
use Rattle.std.proofs.lemmas.List.Elements.{All-append, All-tail}
use Rattle.arrays.specs.Prelude.{IsOfType, Item, Seen, boolean, codes_of, dictionary_of, encoded, int, int32, is_code, item_of, joined_items, list, looked_up, most_slots, null, shown, text}
use Rattle.arrays.specs.Kind as kind
use Rattle.select.specs.Joined.{IsEncoded, joined, joined_codes, joined_entries, shifted}
use Rattle.arrays.proofs.DictionaryLemmas.{code-below, below-code}
use Rattle.select.proofs.ListLemmas.{get_or-map-any}

pub encoded-is : (s : Seen) → s ≡ encoded (codes_of s) (dictionary_of s) → All (λ c. is_code (length s.entries.items) c ≡ true) s.codes → IsEncoded s
encoded-is s is within = record { items = ap (λ (q : Seen). q.items) is; within = within }

-- ---- one code

pub code-at : (s codes : Seen) (i : ℕ) (code : Item) → codes ≡ codes_of s → slice_get codes.items i ≡ Some code → slice_get s.codes i ≡ Some code
code-at s codes i code is at = subst (λ (q : Seen). slice_get q.items i ≡ Some code) is at

pub shifted-fits : (n before : ℕ) (code result : Option ℤ) → is_code n (item_of code) ≡ true → before + n ≤ most_slots → item_of result ≡ shifted before (item_of code) → ForSome result (IsOfType int32)
shifted-fits n before code None names few is x same = cc
shifted-fits n before None (Some y) names few is x same = cc
shifted-fits n before (Some (negsuc m)) (Some y) names few is x same = cc
shifted-fits n before (Some (pos m)) (Some y) names few is x same =
    let fits : IsOfType int32 (pos (m + before)) = small (m + before) (omega (arith, code-below n m names, few)) in
    let here : pos (m + before) ≡ x = one (sym is) ∙ other same in
    subst (IsOfType int32) here fits
  where
    small : (k : ℕ) → k ≤ most_slots → IsOfType int32 (pos k)
    small k h = omega (arith, ints)

    one : {a b : ℤ} → int a ≡ int b → a ≡ b
    one h = cc

    other : {a b : ℤ} → Some a ≡ Some b → a ≡ b
    other h = cc

looked-shifted : (before entries rest : List Item) (code : Item) → is_code (length entries) code ≡ true
    → looked_up (before ++ (entries ++ rest)) (shifted (length before) code) ≡ looked_up entries code
looked-shifted before entries rest null names = refl
looked-shifted before entries rest (int (negsuc m)) names = cc
looked-shifted before entries rest (boolean b) names = cc
looked-shifted before entries rest (text t) names = cc
looked-shifted before entries rest (list xs) names = cc
looked-shifted before entries rest (int (pos m)) names =
    let turned : m + length before ≡ length before + m = omega arith in
    ap (λ j. get_or (before ++ (entries ++ rest)) j null) turned
    ∙ get_or-append-add before (entries ++ rest) m null
    ∙ Rattle.std.proofs.Math.ListN.get_or-append entries rest null m (code-below (length entries) m names)

code-shifted : (n m before : ℕ) (code : Item) → is_code m code ≡ true → before + m ≤ n → is_code n (shifted before code) ≡ true
code-shifted n m before null names few = refl
code-shifted n m before (int (negsuc k)) names few = cc
code-shifted n m before (boolean b) names few = cc
code-shifted n m before (text t) names few = cc
code-shifted n m before (list xs) names few = cc
code-shifted n m before (int (pos k)) names few = below-code n (k + before) (omega (arith, few, code-below m k names))

-- ---- the codes of one column

all-looked : (before entries rest codes : List Item) → All (λ c. is_code (length entries) c ≡ true) codes
    → map (looked_up (before ++ (entries ++ rest))) (map (shifted (length before)) codes) ≡ map (looked_up entries) codes
all-looked before entries rest [] all = refl
all-looked before entries rest (c ∷ codes) all =
    ap (λ x. x ∷ map (looked_up (before ++ (entries ++ rest))) (map (shifted (length before)) codes)) (looked-shifted before entries rest c (all 0 null (omega arith)))
    ∙ ap (λ l. looked_up entries c ∷ l) (all-looked before entries rest codes (All-tail (λ c. is_code (length entries) c ≡ true) c codes all))

all-shifted : (n m before : ℕ) (codes : List Item) → All (λ c. is_code m c ≡ true) codes → before + m ≤ n → All (λ c. is_code n c ≡ true) (map (shifted before) codes)
all-shifted n m before codes all few k d below =
    let there : k < length codes = omega (arith, below, length-map codes (shifted before)) in
    ap (is_code n) (get_or-map-any (shifted before) codes k d null there) ∙ code-shifted n m before (get_or codes k null) (all k null there) few

-- ---- the codes of all columns

pub codes-looked : (before : List Item) (columns : List Seen) → All IsEncoded columns
    → map (looked_up (before ++ joined_entries columns)) (joined_codes (length before) columns) ≡ joined_items columns
codes-looked before [] all = refl
codes-looked before (s ∷ rest) all =
    let entries = s.entries.items in
    let more = joined_entries rest in
    let f = looked_up (before ++ (entries ++ more)) in
    let this : IsEncoded s = all 0 s (omega arith) in
    let wider : before ++ (entries ++ more) ≡ (before ++ entries) ++ more = sym (append_assoc before entries more) in
    let longer : length before + length entries ≡ length (before ++ entries) = sym (length-append before entries) in
    map-append f (map (shifted (length before)) s.codes) (joined_codes (length before + length entries) rest)
    ∙ ap (λ l. l ++ map f (joined_codes (length before + length entries) rest)) (all-looked before entries more s.codes this.within ∙ sym this.items)
    ∙ ap (λ n. s.items ++ map f (joined_codes n rest)) longer
    ∙ ap (λ l. s.items ++ map (looked_up l) (joined_codes (length (before ++ entries)) rest)) wider
    ∙ ap (λ l. s.items ++ l) (codes-looked (before ++ entries) rest (All-tail IsEncoded s rest all))

pub codes-within : (n before : ℕ) (columns : List Seen) → All IsEncoded columns → before + length (joined_entries columns) ≤ n → All (λ c. is_code n c ≡ true) (joined_codes before columns)
codes-within n before [] all few = λ k d below. absurd (omega (arith, below))
codes-within n before (s ∷ rest) all few =
    let this : IsEncoded s = all 0 s (omega arith) in
    let sum = length-append s.entries.items (joined_entries rest) in
    All-append (λ c. is_code n c ≡ true) (map (shifted before) s.codes) (joined_codes (before + length s.entries.items) rest)
    (all-shifted n (length s.entries.items) before s.codes this.within (omega (arith, few, sum)))
    (codes-within n (before + length s.entries.items) rest (All-tail IsEncoded s rest all) (omega (arith, few, sum)))

-- the codes of the next column go from what is to come to what is there
pub codes-more : (columns : List Seen) (k before after : ℕ) (s : Seen) (old new all : List Item) → k < length columns → s ≡ get_or columns k s
    → old ++ joined_codes before (drop k columns) ≡ all → new ≡ old ++ map (shifted before) s.codes → after ≡ before + length s.entries.items
    → new ++ joined_codes after (drop (k + 1) columns) ≡ all
codes-more columns k before after s old new all below at is more count =
    let rest = drop (k + 1) columns in
    ap (λ l. l ++ joined_codes after rest) more
    ∙ append_assoc old (map (shifted before) s.codes) (joined_codes after rest)
    ∙ ap (λ n. old ++ (map (shifted before) s.codes ++ joined_codes n rest)) count
    ∙ ap (λ l. old ++ joined_codes before l) (sym (drop_more columns k s below ∙ ap (λ x. x ∷ rest) (sym at)))
    ∙ is

-- the array of all codes with all entries
pub joined-encoded : (columns : List Seen) (codes words : Seen) → All IsEncoded columns → codes ≡ shown (kind.int int32) (joined_codes 0 columns) → words ≡ shown kind.utf8 (joined_entries columns)
    → encoded codes words ≡ joined kind.dict columns
joined-encoded columns codes words all codes_are words_are =
    ap (λ c. encoded c words) codes_are
    ∙ ap (encoded (shown (kind.int int32) (joined_codes 0 columns))) words_are
    ∙ ap (λ xs. whole xs) (codes-looked [] columns all)
  where
    whole : List Item → Seen
    whole xs = record {
      kind = kind.dict;
      validity = Rattle.arrays.specs.Shown.validity_of (joined_codes 0 columns);
      items = xs;
      codes = joined_codes 0 columns;
      entries = Rattle.arrays.specs.Dictionary.entries_shown (shown kind.utf8 (joined_entries columns));
    }

-- no codes are to come
pub codes-end : (columns : List Seen) (k before : ℕ) (old all : List Item) → length columns ≤ k → old ++ joined_codes before (drop k columns) ≡ all → old ≡ all
codes-end columns k before old all past is =
    sym (ap (λ l. old ++ joined_codes before l) (drop_all k columns past) ∙ append-nil old) ∙ is

pub length-codes-of : (s : Seen) → IsEncoded s → length s.codes ≡ length s.items
length-codes-of s is = sym (ap (λ (l : List Item). length l) is.items ∙ length-map s.codes (looked_up s.entries.items))
