-- An array of codes with a dictionary, and a dictionary from an array of texts.
use Rattle.std.proofs.Common.{◌≡◌, ◌∙◌, ℕ, ◌+◌, List, [], ◌∷◌, map, Bool, true, false, not, ◌||◌, ◌&&◌, int_lt, nat_lt, pos, negsuc, get_or, length, length-append, ◌++◌, ◌<◌, ◌≤◌, option_map, cond, Option, Some, None, ap, sym, refl, subst, arith, zero-add, slice_index_or, ℤ}
use Rattle.std.specs.List.{All, range_with_len}
use mathlib.Core.List.{IsPrefix}
use Rattle.std.proofs.lemmas.Bool.{and_parts, le-ltb, lt-ltb, ltb-true}
use Rattle.std.proofs.lemmas.List.{get_or_append_left}
use Rattle.std.proofs.lemmas.List.Elements.{All-tail}
use Rattle.std.proofs.lemmas.Simd.{map-map}
use Rattle.std.proofs.lemmas.List.FromFn.{get_or-map-range_with_len}
use Rattle.std.proofs.lemmas.Bool.Decides.{nat_tests}
use Rattle.layout.specs.Prelude.{Buffers, Item, Reading, Seen, boolean, checked_texts, code_at, codes, column, inner_of, int, is_no_code, is_valid, least_row, list, null, read_parts, text, validity_of}
use Rattle.types.specs.Kind as kind
use Rattle.types.specs.Prelude.{Kind, first, int32, is_negative, kind_of, kind_step, natural, same_kind}
use Rattle.types.specs.declared.data_type.DataType.{DataType, fold_out-DataType, map-DataType}
use Rattle.types.specs.declared.data_type.DataType.TheVariants.{Dict, outs-Dict}
use Rattle.types.specs.declared.data_type.Field.{Field, fold-Field}
use Rattle.arrays.specs.Dictionary.{codes_of, encoded, entries_shown, is_code, looked_up, over}
use Rattle.layout.proofs.FirstFaultLemmas.{IsWhole, own_fault-whole}
use Rattle.layout.proofs.LawfulLemmas.{texts_of, either_false, none_present, no_dictionary}
use Rattle.layout.proofs.RangeLists.{map-range-below}
use Rattle.layout.proofs.RowLemmas.{least_none}
use Rattle.arrays.proofs.DictionaryViews.{codes-whole, codes_fit, codes_lawful, named-part}
use Rattle.arrays.proofs.SlotLemmas.{whole}
use Rattle.layout.proofs.SeenLemmas.{Fits-seen, length-column, part-all, seen-kind}

-- ---- texts

-- Texts alone: an array of texts by its length and buffers.
pub record IsTexts (n : ℕ) (buffers : Buffers) (s : Seen) : Type 0 where
  pub lawful : (read_parts kind.utf8 n None buffers [] None).fault ≡ None
  pub shows : (read_parts kind.utf8 n None buffers [] None).seen ≡ s

pub IsTexts-array : (k : Kind) (n : ℕ) (buffers : Buffers) (children : List Reading) (words : Option Reading) (s : Seen)
    → (read_parts k n None buffers children words).fault ≡ None → (read_parts k n None buffers children words).seen ≡ s → s.kind ≡ kind.utf8 → IsTexts n buffers s
IsTexts-array k n buffers children words s lawful shows texts =
    let is : k ≡ kind.utf8 = sym (seen-kind k n None buffers children words) ∙ ap (λ (q : Seen). q.kind) shows ∙ texts in
    let same = ap (λ q. read_parts q n None buffers children words) is in
    let alone = texts_of n None buffers children words (sym (ap (λ (q : Reading). q.fault) same) ∙ lawful) in
    record { lawful = alone.0; shows = alone.1 ∙ sym (ap (λ (q : Reading). q.seen) same) ∙ shows }

-- ---- codes

-- an array of numbers has neither child nor dictionary
numbers_alone : (n : ℕ) (buffers : Buffers) (children : List Reading) (words : Option Reading)
    → (read_parts (kind.int int32) n None buffers children words).fault ≡ None → (children ≡ []) × (words ≡ None)
numbers_alone n buffers children words h =
    let parts = either_false _ _ (whole (kind.int int32) n None buffers children words h).parts_agree in
    (none_present children parts.0, no_dictionary words parts.1)

-- a code that is null or within the entries breaks no rule
code_kept : (valid : Bool) (z : _) (entries : ℕ) → is_code entries (cond valid (int z) null) ≡ true → (valid && (is_negative z || not (int_lt z (pos entries)))) ≡ false
code_kept false z entries h = refl
code_kept true z entries h = both_kept (is_negative z) (int_lt z (pos entries)) h where
  both_kept : (a b : Bool) → (not a && b) ≡ true → (a || not b) ≡ false
  both_kept true b h = cc
  both_kept false true h = refl
  both_kept false false h = cc

codes_kept : (n entries : ℕ) (buffers : Buffers) → All (λ c. is_code entries c ≡ true) (column (kind.int int32) n buffers [] []) → least_row (is_no_code buffers entries) n ≡ None
unfolding column
codes_kept n entries buffers all =
    let code : ℕ → Item = λ j. cond (is_valid buffers j) (int (code_at buffers j)) null in
    least_none (is_no_code buffers entries) n (λ j below.
    code_kept (is_valid buffers j) (code_at buffers j) entries
    (subst (λ c. is_code entries c ≡ true) (get_or-map-range_with_len code 0 n j j null below (zero-add j)) (all j null (omega (arith, below, length-column (kind.int int32) n buffers [] [])))))

-- what the codes name is what the slots show
named : (n : ℕ) (buffers : Buffers) (entries : List Item) → map (looked_up entries) (column (kind.int int32) n buffers [] []) ≡ column kind.dict n buffers [] entries
unfolding column
named n buffers entries =
    let code : ℕ → Item = λ j. cond (is_valid buffers j) (int (code_at buffers j)) null in
    map-map (looked_up entries) code (range_with_len 0 n)
    ∙ map-range-below (λ j. looked_up entries (code j)) (λ j. cond (is_valid buffers j) (slice_index_or entries (natural (code_at buffers j)) null) null) 0 n
    (λ j below. chosen (is_valid buffers (0 + j)) (code_at buffers (0 + j)))
  where
    chosen : (valid : Bool) (z : _) → looked_up entries (cond valid (int z) null) ≡ cond valid (slice_index_or entries (natural z) null) null
    chosen true z = refl
    chosen false z = refl

-- ---- the array that they make

dict_whole : (n : ℕ) (buffers : Buffers) (d : Reading) → (read_parts (kind.int int32) n None buffers [] None).fault ≡ None → d.kind ≡ kind.utf8
    → All (λ c. is_code d.length c ≡ true) (column (kind.int int32) n buffers [] []) → IsWhole kind.dict n None buffers [] (Some (inner_of d))
dict_whole n buffers d lawful texts all =
    let w = whole (kind.int int32) n None buffers [] None lawful in
    record {
      short = w.short;
      shallow = refl;
      none_missing = w.none_missing;
      none_extra = w.none_extra;
      parts_agree = ap (λ k. not (same_kind k kind.utf8)) texts;
      validity_enough = w.validity_enough;
      data_enough = w.data_enough;
      none_negative = refl;
      none_decreases = refl;
      within_end = refl;
      count_agrees = refl;
      all_texts = refl;
      all_codes = codes_kept n d.length buffers all;
    }

dict_lawful : (n : ℕ) (buffers : Buffers) (d : Reading) → (read_parts (kind.int int32) n None buffers [] None).fault ≡ None → d.kind ≡ kind.utf8 → d.fault ≡ None
    → All (λ c. is_code d.length c ≡ true) (column (kind.int int32) n buffers [] []) → (read_parts kind.dict n None buffers [] (Some d)).fault ≡ None
unfolding read_parts
dict_lawful n buffers d lawful texts none all =
    ap (λ o. first (o ∷ None ∷ d.fault ∷ [])) (own_fault-whole kind.dict n None buffers [] (Some (inner_of d)) (dict_whole n buffers d lawful texts all))
    ∙ ap (λ o. first (None ∷ None ∷ o ∷ [])) none

codes_shown : (n : ℕ) (buffers : Buffers) → (read_parts (kind.int int32) n None buffers [] None).seen.items ≡ column (kind.int int32) n buffers [] []
unfolding read_parts
codes_shown n buffers = refl

dict_shows : (n : ℕ) (buffers : Buffers) (d : Reading) → (read_parts kind.dict n None buffers [] (Some d)).seen ≡ encoded (read_parts (kind.int int32) n None buffers [] None).seen d.seen
unfolding read_parts codes
dict_shows n buffers d =
    ap (λ xs. record {
      kind = kind.dict;
      validity = validity_of n buffers;
      items = xs;
      codes = column (kind.int int32) n buffers [] [];
      entries = record { validity = d.seen.validity; items = d.seen.items };
    }) (sym (named n buffers d.seen.items))

-- The parts of an array of codes make a lawful array with a dictionary, which shows what the codes name.
pub record MakesDict (n : ℕ) (buffers : Buffers) (children : List Reading) (shown words : Seen) : Type 0 where
  pub lawful : (read_parts kind.dict n None buffers children (Some (checked_texts words))).fault ≡ None
  pub shows : (read_parts kind.dict n None buffers children (Some (checked_texts words))).seen ≡ encoded shown words

makes_alone : (n : ℕ) (buffers : Buffers) (words : Seen) → (read_parts (kind.int int32) n None buffers [] None).fault ≡ None
    → All (λ c. is_code (length words.items) c ≡ true) (read_parts (kind.int int32) n None buffers [] None).seen.items
    → MakesDict n buffers [] (read_parts (kind.int int32) n None buffers [] None).seen words
makes_alone n buffers words lawful all = record {
  lawful = dict_lawful n buffers (checked_texts words) lawful refl refl (subst (λ (xs : List Item). All (λ c. is_code (length words.items) c ≡ true) xs) (codes_shown n buffers) all);
  shows = dict_shows n buffers (checked_texts words);
}

makes_numbers : (n : ℕ) (buffers : Buffers) (children : List Reading) (present_words : Option Reading) (words : Seen) → children ≡ [] → present_words ≡ None
    → (read_parts (kind.int int32) n None buffers children present_words).fault ≡ None
    → All (λ c. is_code (length words.items) c ≡ true) (read_parts (kind.int int32) n None buffers children present_words).seen.items
    → MakesDict n buffers children (read_parts (kind.int int32) n None buffers children present_words).seen words
makes_numbers n buffers [] None words childless wordless lawful all = makes_alone n buffers words lawful all
makes_numbers n buffers [] (Some d) words childless wordless lawful all = cc
makes_numbers n buffers (c ∷ cs) present_words words childless wordless lawful all = cc

pub MakesDict-array : (k : Kind) (n : ℕ) (buffers : Buffers) (children : List Reading) (present_words : Option Reading) (shown words : Seen)
    → (read_parts k n None buffers children present_words).fault ≡ None → (read_parts k n None buffers children present_words).seen ≡ shown
    → shown.kind ≡ kind.int int32 → All (λ c. is_code (length words.items) c ≡ true) shown.items
    → MakesDict n buffers children shown words
MakesDict-array k n buffers children present_words shown words lawful shows numbers all =
    let is : k ≡ kind.int int32 = sym (seen-kind k n None buffers children present_words) ∙ ap (λ (q : Seen). q.kind) shows ∙ numbers in
    let same = ap (λ q. read_parts q n None buffers children present_words) is in
    let lawful_int = sym (ap (λ (q : Reading). q.fault) same) ∙ lawful in
    let shows_int = sym (ap (λ (q : Reading). q.seen) same) ∙ shows in
    let alone = numbers_alone n buffers children present_words lawful_int in
    subst (λ (s : Seen). MakesDict n buffers children s words) shows_int
    (makes_numbers n buffers children present_words words alone.0 alone.1 lawful_int (subst (λ (s : Seen). All (λ c. is_code (length words.items) c ≡ true) s.items) (sym shows_int) all))

-- ---- a longer dictionary

pub code-below : (n m : ℕ) → is_code n (int (pos m)) ≡ true → m < n
code-below n m h = ltb-true m n (and_parts (not (nat_lt m 0)) (nat_lt m n) h).1

pub below-code : (n m : ℕ) → m < n → is_code n (int (pos m)) ≡ true
below-code n m below = ap (λ b. not b && nat_lt m n) (le-ltb m 0 (omega arith)) ∙ lt-ltb m n below

looked-longer : (entries rest : List Item) (code : Item) → is_code (length entries) code ≡ true → looked_up (entries ++ rest) code ≡ looked_up entries code
looked-longer entries rest null names = refl
looked-longer entries rest (int (negsuc m)) names = cc
looked-longer entries rest (boolean b) names = cc
looked-longer entries rest (text t) names = cc
looked-longer entries rest (list xs) names = cc
looked-longer entries rest (int (pos m)) names = get_or_append_left entries rest null m (code-below (length entries) m names)

-- a code names an entry of a longer dictionary too
pub code-longer : (m n : ℕ) (code : Item) → m ≤ n → is_code m code ≡ true → is_code n code ≡ true
code-longer m n null le names = refl
code-longer m n (int (negsuc k)) le names = cc
code-longer m n (boolean b) le names = cc
code-longer m n (text t) le names = cc
code-longer m n (list xs) le names = cc
code-longer m n (int (pos k)) le names = below-code n k (omega (arith, le, code-below m k names))

-- and the same one
pub all-looked : (entries rest codes : List Item) → All (λ c. is_code (length entries) c ≡ true) codes → map (looked_up (entries ++ rest)) codes ≡ map (looked_up entries) codes
all-looked entries rest [] all = refl
all-looked entries rest (c ∷ codes) all =
    ap (λ x. x ∷ map (looked_up (entries ++ rest)) codes) (looked-longer entries rest c (all 0 null (omega arith)))
    ∙ ap (λ l. looked_up entries c ∷ l) (all-looked entries rest codes (All-tail (λ c. is_code (length entries) c ≡ true) c codes all))

-- The parts of a dictionary-encoded array make one over a longer dictionary.
pub record MakesOver (n : ℕ) (buffers : Buffers) (children : List Reading) (shown words : Seen) : Type 0 where
  pub lawful : (read_parts kind.dict n None buffers children (Some (checked_texts words))).fault ≡ None
  pub shows : (read_parts kind.dict n None buffers children (Some (checked_texts words))).seen ≡ over shown words

pub MakesOver-array : (k : Kind) (n : ℕ) (buffers : Buffers) (children : List Reading) (words : Option Seen) (shown other : Seen)
    → (read_parts k n None buffers children (option_map checked_texts words)).fault ≡ None → (read_parts k n None buffers children (option_map checked_texts words)).seen ≡ shown
    → shown.kind ≡ kind.dict → IsPrefix shown.entries.items other.items
    → MakesOver n buffers children shown other
MakesOver-array k n buffers children words shown other lawful shows dict begun =
    let w = option_map checked_texts words in
    let is : k ≡ kind.dict = sym (seen-kind k n None buffers children w) ∙ ap (λ (q : Seen). q.kind) shows ∙ dict in
    let same = ap (λ q. read_parts q n None buffers children w) is in
    let lawful_dict = sym (ap (λ (q : Reading). q.fault) same) ∙ lawful in
    let shows_dict = sym (ap (λ (q : Reading). q.seen) same) ∙ shows in
    let whole_part = part-all n (read_parts kind.dict n None buffers children w).seen (Fits-seen kind.dict n None buffers children w) ∙ shows_dict in
    let fit = subst (λ (q : Seen). All (λ c. is_code (length q.entries.items) c ≡ true) q.codes) whole_part (codes_fit n buffers children words 0 n lawful_dict (omega arith)) in
    let named = subst (λ (q : Seen). q.items ≡ map (looked_up q.entries.items) q.codes) whole_part (named-part n buffers children w 0 n) in
    let le : length shown.entries.items ≤ length other.items = omega (arith, length-append shown.entries.items begun.0, ap (λ (l : List Item). length l) begun.1) in
    let made = MakesDict-array (kind.int int32) n buffers children None (codes_of shown) other (codes_lawful n buffers children w lawful_dict) (codes-whole n buffers children w ∙ ap codes_of shows_dict) refl
    (λ i d below. code-longer (length shown.entries.items) (length other.items) (get_or shown.codes i d) le (fit i d below)) in
    let same_items : map (looked_up other.items) shown.codes ≡ shown.items =
    ap (λ (l : List Item). map (looked_up l) shown.codes) (sym begun.1) ∙ all-looked shown.entries.items begun.0 shown.codes fit ∙ sym named in
    record {
      lawful = made.lawful;
      shows = made.shows ∙ ap (λ xs. record { kind = kind.dict; validity = shown.validity; items = xs; codes = shown.codes; entries = entries_shown other }) same_items;
    }

pub kind_of-Dict : kind_of Dict ≡ kind.dict
kind_of-Dict = fold_out-DataType Kind Kind kind_step (λ f. f.ty) Dict ∙ ap (λ o. kind_step (map-DataType DataType Field Kind Kind kind_of (fold-Field Kind Kind kind_step (λ f. f.ty)) o)) outs-Dict

pub code_row : (n : ℕ) (z : ℤ) → is_code n (int z) ≡ true → natural z < n
code_row n (pos m) h = grind (arith, nat_tests, h)
code_row n (negsuc m) h = cc
