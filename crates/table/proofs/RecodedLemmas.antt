-- Columns stored one after the other.
use Rattle.std.proofs.Common.{◌≡◌, ◌∙◌, ℕ, zero, suc, pos, ◌+◌, ◌<◌, ◌≤◌, true, false, not, ◌&&◌, List, [], ◌∷◌, ◌++◌, length, map, take, drop, set, get_or, Option, None, Some, option_map, All, if◌then◌else◌, refl, sym, ap, subst, arith, length-append}
use Rattle.std.specs.Prelude.{nat_lt}
use mathlib.Core.List.{IsPrefix}
use Rattle.std.specs.List.{AllZip, enumerate_from, zip}
use Rattle.std.specs.Str.{bytes_eq}
use Rattle.std.proofs.lemmas.Bool.{le-ltb, lt-ltb}
use Rattle.std.proofs.lemmas.List.{append-nil, drop_all, drop_more, append_assoc, get_or-map, get_or_at, get_or_default, length-drop, length-map, length-take-le, map-append, map_more, set_at, take-append-drop, take_all, take_more}
use Rattle.std.proofs.lemmas.Simd.{map-map}
use Rattle.std.proofs.lemmas.Slice.Zip.{get_or-zip, length-zip}
use Rattle.arrays.specs.Prelude.{Item, Seen, boolean, encoded, first, int, int32, is_code, is_recodable, item_of, list, null, shown, text}
use Rattle.arrays.specs.Kind as kind
use Rattle.pool.specs.Prelude.{IsFront, code_item, firsts, place_of, texts_of}
use Rattle.pool.proofs.PlaceLemmas.{position_found}
use Rattle.pool.proofs.PrefixLemmas.{prefix_take}
use Rattle.std.specs.Bool.{then_some}
use Rattle.table.specs.Recoded.{coded, dictionary_for, full_at, full_cause, grown, is_past_dictionary, stored_seen}
use Rattle.table.specs.declared.refusal.Refusal.{Refusal}
use Rattle.table.specs.declared.refusal.Refusal.TheVariants.{TextsFull}
use Rattle.table.proofs.FrontLemmas.{prefix_self}

-- ---- texts that begin others

-- A dictionary of the old texts is one of the first of the new.
pub dictionary-front : (words : Seen) (old new : List (List ℕ)) → words ≡ shown kind.utf8 (map text old) → IsPrefix old new → IsFront new words
dictionary-front words old new is begun =
    let many : length words.items ≡ length old = ap (λ (s : Seen). length s.items) is ∙ length-map old (λ t. text t) in
    is ∙ ap (λ (l : List (List ℕ)). shown kind.utf8 (map text l)) (sym (ap (λ n. take n new) many ∙ prefix_take old new begun))

-- One of as many texts is one of all.
pub dictionary-whole : (words : Seen) (texts : List (List ℕ)) → IsFront texts words → length words.items ≡ length texts → words ≡ shown kind.utf8 (map text texts)
dictionary-whole words texts front many =
    front ∙ ap (λ (l : List (List ℕ)). shown kind.utf8 (map text l)) (take_all (length words.items) texts (omega (arith, many)))

-- ---- codes

code-place : (n : ℕ) (o : Option ℕ) → ((k : ℕ) → o ≡ Some k → k < n) → is_code n (item_of (option_map pos o)) ≡ true
code-place n None below = refl
code-place n (Some k) below =
    ap (λ b. not b && nat_lt k n) (le-ltb k 0 (omega arith)) ∙ lt-ltb k n (below k refl)

-- The code of an item is null or a place among the texts.
code-within : (texts : List (List ℕ)) (x : Item) → is_code (length texts) (code_item texts x) ≡ true
code-within texts null = refl
code-within texts (int z) = refl
code-within texts (boolean b) = refl
code-within texts (text t) = code-place (length texts) (place_of texts t) (λ k at. (position_found (bytes_eq t) texts k at).1)
code-within texts (list l) = refl

pub codes-within : (texts : List (List ℕ)) (items : List Item) → All (λ c. is_code (length texts) c ≡ true) (map (code_item texts) items)
codes-within texts items k d below =
    let inside : k < length items = omega (arith, below, length-map items (code_item texts)) in
    subst (λ c. is_code (length texts) c ≡ true) (sym (get_or-map (code_item texts) items k null d inside)) (code-within texts (get_or items k null))

grown-text : (old : List (List ℕ)) (c : Seen) → is_recodable c.kind ≡ true → grown (old, c) ≡ firsts (old ++ texts_of c.items)
grown-text old c is = ap (λ b. if b then firsts (old ++ texts_of c.items) else old) is

-- Codes with the dictionary of the texts are the column as it is stored.
pub column-coded : (old texts : List (List ℕ)) (c codes words : Seen) → is_recodable c.kind ≡ true → texts ≡ firsts (old ++ texts_of c.items)
    → codes ≡ shown (kind.int int32) (map (code_item texts) c.items) → words ≡ shown kind.utf8 (map text texts) → encoded codes words ≡ coded (grown (old, c)) c
column-coded old texts c codes words is are made named =
    ap (λ (s : Seen). encoded s words) made
    ∙ ap (λ (s : Seen). encoded (shown (kind.int int32) (map (code_item texts) c.items)) s) named
    ∙ ap (λ (l : List (List ℕ)). coded l c) (are ∙ sym (grown-text old c is))

-- ---- a loop that writes

module _ {A Z : Type 0} (f : Z → A) (olds : List A) (inputs : List Z) (same : length inputs ≡ length olds) where
  -- The first k are written.
  abbrev pub Written : ℕ → List A → Type 0
  Written k now = now ≡ map f (take k inputs) ++ drop k olds

  written-count : (k : ℕ) → k ≤ length inputs → length (map f (take k inputs)) ≡ k
  written-count k within = length-map (take k inputs) f ∙ length-take-le k inputs within

  pub Written-length : (k : ℕ) (now : List A) → k ≤ length inputs → Written k now → length now ≡ length olds
  Written-length k now within is =
      omega (arith, same, written-count k within, length-drop k olds, length-append (map f (take k inputs)) (drop k olds), ap (λ (l : List A). length l) is)

  pub Written-read : (k : ℕ) (now : List A) (d : A) → k < length inputs → Written k now → get_or now k d ≡ get_or olds k d
  Written-read k now d below is =
      ap (λ l. get_or l k d) (is ∙ ap (λ l. map f (take k inputs) ++ l) (drop_more olds k d (omega (arith, same, below))))
      ∙ get_or_at (map f (take k inputs)) (get_or olds k d) (drop (k + 1) olds) d k (written-count k (omega (arith, below)))

  pub Written-more : (k : ℕ) (now : List A) (z : Z) (y : A) → k < length inputs → Written k now → y ≡ f (get_or inputs k z) → Written (k + 1) (set now k y)
  Written-more k now z y below is value =
      ap (λ l. set l k y) (is ∙ ap (λ l. map f (take k inputs) ++ l) (drop_more olds k y (omega (arith, same, below))))
      ∙ set_at (map f (take k inputs)) (get_or olds k y) (drop (k + 1) olds) y k (written-count k (omega (arith, below)))
      ∙ ap (λ v. map f (take k inputs) ++ v ∷ drop (k + 1) olds) value
      ∙ sym (append_assoc (map f (take k inputs)) (f (get_or inputs k z) ∷ []) (drop (k + 1) olds))
      ∙ ap (λ l. l ++ drop (k + 1) olds) (sym (map_more f inputs k z below))

  pub Written-all : (k : ℕ) (now : List A) → length inputs ≤ k → Written k now → now ≡ map f inputs
  Written-all k now past is =
      is ∙ ap (λ l. map f l ++ drop k olds) (take_all k inputs past)
      ∙ ap (λ l. map f inputs ++ l) (drop_all k olds (omega (arith, same, past))) ∙ append-nil (map f inputs)

-- ---- pools of columns side by side

pub begun-all : (pools : List (List (List ℕ))) → AllZip IsPrefix pools pools
begun-all [] = tt
begun-all (p ∷ pools) = (prefix_self p, begun-all pools)

-- A pool that is written begins as it did.
pub begun-set : (olds now : List (List (List ℕ))) (k : ℕ) (y : List (List ℕ)) → AllZip IsPrefix olds now → IsPrefix (get_or olds k y) y
    → AllZip IsPrefix olds (set now k y)
begun-set [] [] k y all one = tt
begun-set [] (p ∷ now) k y all one = absurd all
begun-set (o ∷ olds) [] k y all one = absurd all
begun-set (o ∷ olds) (p ∷ now) zero y all one = (one, all.1)
begun-set (o ∷ olds) (p ∷ now) (suc k) y all one = (all.0, begun-set olds now k y all.1 one)

enumerate_from-append : {X : Type 0} (n : ℕ) (xs ys : List X) → enumerate_from n (xs ++ ys) ≡ enumerate_from n xs ++ enumerate_from (n + length xs) ys
enumerate_from-append n [] ys = ap (λ m. enumerate_from m ys) (omega arith)
enumerate_from-append n (x ∷ xs) ys =
    ap (λ l. (n, x) ∷ l) (enumerate_from-append (n + 1) xs ys ∙ ap (λ m. enumerate_from (n + 1) xs ++ enumerate_from m ys) (omega arith))

first-append : (xs ys : List (Option Refusal)) → first xs ≡ None → first (xs ++ ys) ≡ first ys
first-append [] ys none = refl
first-append (None ∷ xs) ys none = first-append xs ys none
first-append (Some x ∷ xs) ys none = absurd cc

abbrev full_among : ℕ → List (List (List ℕ) × Seen) → Option Refusal
full_among n pairs = first (map full_at (enumerate_from n pairs))

full_among-append : (xs ys : List (List (List ℕ) × Seen)) → full_among 0 xs ≡ None → full_among 0 (xs ++ ys) ≡ full_among (0 + length xs) ys
full_among-append xs ys none =
    ap (λ l. first (map full_at l)) (enumerate_from-append 0 xs ys)
    ∙ ap first (map-append full_at (enumerate_from 0 xs) (enumerate_from (0 + length xs) ys))
    ∙ first-append (map full_at (enumerate_from 0 xs)) (map full_at (enumerate_from (0 + length xs) ys)) none

-- The pairs of texts and columns with the columns again.
zip-again : {A B C : Type 0} (f : A × B → C) (xs : List A) (ys : List B) → zip (map f (zip xs ys)) ys ≡ map (λ p. (f p, p.1)) (zip xs ys)
zip-again f [] [] = refl
zip-again f [] (y ∷ ys) = refl
zip-again f (x ∷ xs) [] = refl
zip-again f (x ∷ xs) (y ∷ ys) = ap (λ l. (f (x, y), y) ∷ l) (zip-again f xs ys)

-- The first k columns are stored.
pub record AreStored (olds : List (List (List ℕ))) (columns : List Seen) (k : ℕ) (pools : List (List (List ℕ))) (stored : List Seen) (dictionaries : List (Option Seen)) : Type 0 where
  pub columns_are : stored ≡ map stored_seen (take k (zip olds columns))
  pub dictionaries_are : dictionaries ≡ map (λ p. dictionary_for (grown p, p.1)) (take k (zip olds columns))
  pub pools_are : pools ≡ map grown (take k (zip olds columns)) ++ drop k olds
  pub fits : full_among 0 (take k (zip olds columns)) ≡ None
  pub begun : AllZip IsPrefix olds pools

pub AreStored-none : (olds : List (List (List ℕ))) (columns : List Seen) → AreStored olds columns 0 olds [] []
AreStored-none olds columns = record { columns_are = refl; dictionaries_are = refl; pools_are = refl; fits = refl; begun = begun-all olds }

module _ (olds : List (List (List ℕ))) (columns : List Seen) (same : length olds ≡ length columns) where
  abbrev pairs : List (List (List ℕ) × Seen)
  pairs = zip olds columns

  pairs-count : length pairs ≡ length olds
  pairs-count = omega (arith, length-zip olds columns, same)

  module _ (k : ℕ) (below : k < length columns) (pools : List (List (List ℕ))) (stored : List Seen) (dictionaries : List (Option Seen)) (are : AreStored olds columns k pools stored dictionaries) where
    inside : k < length pairs
    inside = omega (arith, pairs-count, same, below)

    pub stored-within : k < length pools
    stored-within = omega (arith, inside, pairs-count, Written-length grown olds pairs pairs-count k pools (omega (arith, inside)) are.pools_are)

    module _ (pool : List (List ℕ)) (c : Seen) (pool_at : pool ≡ get_or pools k pool) (column_at : c ≡ get_or columns k c) where
      old-at : pool ≡ get_or olds k pool
      old-at = pool_at ∙ Written-read grown olds pairs pairs-count k pools pool inside are.pools_are

      pair-at : get_or pairs k (pool, c) ≡ (pool, c)
      pair-at =
          get_or-zip olds columns k (pool, c) (omega (arith, same, below)) below
          ∙ ap (λ p. (p, get_or columns k c)) (sym old-at) ∙ ap (λ d. (pool, d)) (sym column_at)

      pairs-more : take (k + 1) pairs ≡ take k pairs ++ (pool, c) ∷ []
      pairs-more = take_more pairs k (pool, c) inside ∙ ap (λ p. take k pairs ++ p ∷ []) pair-at

      mapped-more : {B : Type 0} (f : List (List ℕ) × Seen → B) (before : List B) (y : B) → before ≡ map f (take k pairs) → y ≡ f (pool, c)
          → before ++ y ∷ [] ≡ map f (take (k + 1) pairs)
      mapped-more f before y is value =
          ap (λ l. l ++ y ∷ []) is ∙ ap (λ v. map f (take k pairs) ++ v ∷ []) value
          ∙ sym (map-append f (take k pairs) ((pool, c) ∷ [])) ∙ ap (map f) (sym pairs-more)

      fits-more : is_past_dictionary (pool, c) ≡ false → full_among 0 (take (k + 1) pairs) ≡ None
      fits-more few =
          ap (full_among 0) pairs-more ∙ full_among-append (take k pairs) ((pool, c) ∷ []) are.fits
          ∙ ap (λ b. first (then_some b (TextsFull (0 + length (take k pairs))) ∷ [])) few

      pub pools-begun : (next : List (List ℕ)) → IsPrefix pool next → AllZip IsPrefix olds (set pools k next)
      pools-begun next begins =
          begun-set olds pools k next are.begun
          (subst (λ p. IsPrefix p next) (old-at ∙ get_or_default olds k pool next (omega (arith, same, below))) begins)

      pub AreStored-more : (next : List (List ℕ)) (column : Seen) (dictionary : Option Seen) → column ≡ stored_seen (pool, c)
          → dictionary ≡ dictionary_for (grown (pool, c), c) → next ≡ grown (pool, c) → is_past_dictionary (pool, c) ≡ false → IsPrefix pool next
          → AreStored olds columns (k + 1) (set pools k next) (stored ++ column ∷ []) (dictionaries ++ dictionary ∷ [])
      AreStored-more next column dictionary column_is dictionary_is next_is few begins = record {
        columns_are = mapped-more stored_seen stored column are.columns_are column_is;
        dictionaries_are = mapped-more (λ p. dictionary_for (grown p, p.1)) dictionaries dictionary are.dictionaries_are dictionary_is;
        pools_are = Written-more grown olds pairs pairs-count k pools (pool, c) next inside are.pools_are (next_is ∙ ap grown (sym pair-at));
        fits = fits-more few;
        begun = pools-begun next begins;
      }

      pub full-here : is_past_dictionary (pool, c) ≡ true → full_cause olds columns ≡ Some (TextsFull k)
      unfolding full_cause
      full-here many =
          ap (full_among 0) (sym (take-append-drop k pairs))
          ∙ full_among-append (take k pairs) (drop k pairs) are.fits
          ∙ ap (full_among (0 + length (take k pairs))) (drop_more pairs k (pool, c) inside ∙ ap (λ p. p ∷ drop (k + 1) pairs) pair-at)
          ∙ ap (λ b. first (then_some b (TextsFull (0 + length (take k pairs))) ∷ map full_at (enumerate_from (0 + length (take k pairs) + 1) (drop (k + 1) pairs)))) many
          ∙ ap (λ n. Some (TextsFull n)) (omega (arith, length-take-le k pairs (omega (arith, inside))))

      -- What stands beside them in a list that goes with the pairs.
      pub beside : {B D : Type 0} (v : D → B) (f : List (List ℕ) × Seen → B) (ds : List D) (d : D) → map v ds ≡ map f pairs → d ≡ get_or ds k d → v d ≡ f (pool, c)
      beside v f ds d are d_at =
          ap v d_at ∙ sym (get_or-map v ds k d (v d) (omega (arith, inside, length-map ds v, length-map pairs f, ap (λ l. length l) are)))
          ∙ ap (λ l. get_or l k (v d)) are ∙ get_or-map f pairs k (pool, c) (v d) inside ∙ ap f pair-at

  module _ (k : ℕ) (past : length columns ≤ k) (pools : List (List (List ℕ))) (stored : List Seen) (dictionaries : List (Option Seen)) (are : AreStored olds columns k pools stored dictionaries) where
    all-pairs : take k pairs ≡ pairs
    all-pairs = take_all k pairs (omega (arith, pairs-count, same, past))

    pub columns-stored : stored ≡ map stored_seen pairs
    columns-stored = are.columns_are ∙ ap (map stored_seen) all-pairs

    pub dictionaries-stored : dictionaries ≡ map dictionary_for (zip (map grown pairs) columns)
    dictionaries-stored =
        are.dictionaries_are ∙ ap (map (λ p. dictionary_for (grown p, p.1))) all-pairs
        ∙ sym (map-map dictionary_for (λ p. (grown p, p.1)) pairs) ∙ ap (map dictionary_for) (sym (zip-again grown olds columns))

    pub pools-stored : pools ≡ map grown pairs
    pools-stored = Written-all grown olds pairs pairs-count k pools (omega (arith, pairs-count, same, past)) are.pools_are

    pub none-full : full_cause olds columns ≡ None
    unfolding full_cause
    none-full = ap (full_among 0) (sym all-pairs) ∙ are.fits
