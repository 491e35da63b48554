-- Columns brought to one dictionary.
use Rattle.std.proofs.Common.{◌≡◌, ◌∙◌, ℕ, ◌+◌, ◌<◌, Bool, true, false, not, ◌||◌, cond, List, [], ◌∷◌, ◌++◌, length, take, drop, map, Option, Some, option_map, pos, refl, sym, ap, get_or}
use Rattle.std.specs.Prelude.{slice_get}
use Rattle.std.specs.List.{position_or_len}
use Rattle.std.specs.Str.{bytes_eq}
use Rattle.std.proofs.lemmas.Bool.{le-ltb}
use Rattle.std.proofs.lemmas.Cmp.{nat_list_eq_equiv}
use Rattle.std.proofs.lemmas.Grind.{flat_map-append}
use Rattle.std.proofs.lemmas.List.{append-nil, map-append, take-append-drop, take_more}
use Rattle.std.proofs.lemmas.List.Elements.{filter_map-append}
use Rattle.std.proofs.lemmas.List.Folds.{fold-map, list_any-append}
use Rattle.std.proofs.lemmas.Option.{slice_get_within, get_or_from_slice_get, slice_get-get_or}
use Rattle.arrays.specs.Prelude.{Item, Seen, int32, is_past, item_of, item_of_text, joined_items, most_slots, null, shown, text, text_bytes, text_length}
use Rattle.arrays.specs.Kind.{int}
use Rattle.pool.specs.Prelude.{all_texts, byte_count, code_item, codes_among, firsts, is_among, is_too_full, text_of, texts_of}
use Rattle.pool.proofs.PlaceLemmas.{position-append, among_place}
use Rattle.pool.proofs.TextLemmas.{beyond, firsts-append, firsts-once, is_once-firsts, is_among-firsts, is_too_full-append, is_too_full-take, fits_from}

or-right : (a b : Bool) → b ≡ true → (a || b) ≡ true
or-right true b h = refl
or-right false b h = h

or-left : (a b : Bool) → a ≡ true → (a || b) ≡ true
or-left true b h = refl
or-left false b h = cc

-- Items whose texts are all there have the same codes among more texts.
codes_grown : (items : List Item) (ts us : List (List ℕ)) → ((t : List ℕ) → is_among (texts_of items) t ≡ true → is_among ts t ≡ true)
    → map (code_item ts) items ≡ map (code_item (ts ++ us)) items
codes_grown [] ts us there = refl
codes_grown (text t ∷ items) ts us there =
    let at = among_place (bytes_eq t) ts (there t (or-left (bytes_eq t t) (is_among (texts_of items) t) (nat_list_eq_equiv.refl t))) in
    let same = at ∙ sym (position-append (bytes_eq t) ts us (position_or_len (bytes_eq t) ts) at) in
    ap (λ o. item_of (option_map pos o) ∷ map (code_item ts) items) same
    ∙ ap (λ l. code_item (ts ++ us) (text t) ∷ l) (codes_grown items ts us (λ u h. there u (or-right (bytes_eq u t) (is_among (texts_of items) u) h)))
codes_grown (x ∷ items) ts us there = ap (λ l. null ∷ l) (codes_grown items ts us there)

-- Texts that are beyond others are beyond the first of them.
beyond-firsts : (ts us : List (List ℕ)) → beyond (firsts ts) us ≡ beyond ts us
beyond-firsts ts [] = refl
beyond-firsts ts (u ∷ us) =
    ap (λ b. cond (not b) (u ∷ beyond (firsts ts) us) (beyond (firsts ts) us)) (is_among-firsts ts u)
    ∙ ap (λ l. cond (not (is_among ts u)) (u ∷ l) l) (beyond-firsts ts us)

firsts-joined : (ts us : List (List ℕ)) → firsts (firsts ts ++ us) ≡ firsts (ts ++ us)
firsts-joined ts us =
    firsts-append (firsts ts) us ∙ ap (λ l. l ++ beyond (firsts ts) (firsts us)) (firsts-once (firsts ts) (is_once-firsts ts))
    ∙ ap (λ l. firsts ts ++ l) (beyond-firsts ts (firsts us)) ∙ sym (firsts-append ts us)

-- The pool after some columns, and their codes among the texts of all.
pub record Unified (views : List Seen) (i : ℕ) (pool : List (List ℕ)) (codes : List Seen) : Type 0 where
  pub pool_is : pool ≡ all_texts (take i views)
  pub fits : is_too_full pool ≡ false
  pub codes_are : codes ≡ map (codes_among (all_texts views)) (take i views)

module _ (views : List Seen) where
  abbrev rest_from : ℕ → List (List ℕ)
  rest_from i = beyond (texts_of (joined_items (take i views))) (firsts (texts_of (joined_items (drop i views))))

  grown : (i : ℕ) → all_texts views ≡ all_texts (take i views) ++ rest_from i
  grown i =
      ap all_texts (sym (take-append-drop i views))
      ∙ ap (λ l. firsts (texts_of l)) (flat_map-append (λ (v : Seen). v.items) (take i views) (drop i views))
      ∙ ap firsts (filter_map-append text_of (joined_items (take i views)) (joined_items (drop i views)))
      ∙ firsts-append (texts_of (joined_items (take i views))) (texts_of (joined_items (drop i views)))

  take-view : (i : ℕ) (v : Seen) → slice_get views i ≡ Some v → take (i + 1) views ≡ take i views ++ v ∷ []
  take-view i v at =
      take_more views i v (slice_get_within views i v at) ∙ ap (λ w. take i views ++ w ∷ []) (get_or_from_slice_get views i v v at)

  texts-view : (i : ℕ) (v : Seen) → slice_get views i ≡ Some v
      → texts_of (joined_items (take (i + 1) views)) ≡ texts_of (joined_items (take i views)) ++ texts_of v.items
  texts-view i v at =
      ap (λ l. texts_of (joined_items l)) (take-view i v at)
      ∙ ap texts_of (flat_map-append (λ (w : Seen). w.items) (take i views) (v ∷ []) ∙ ap (λ l. joined_items (take i views) ++ l) (append-nil v.items))
      ∙ filter_map-append text_of (joined_items (take i views)) v.items

  pub pool-view : (i : ℕ) (v : Seen) (pool : List (List ℕ)) → slice_get views i ≡ Some v → pool ≡ all_texts (take i views)
      → firsts (pool ++ texts_of v.items) ≡ all_texts (take (i + 1) views)
  pool-view i v pool at is =
      ap (λ l. firsts (l ++ texts_of v.items)) is ∙ firsts-joined (texts_of (joined_items (take i views))) (texts_of v.items)
      ∙ ap firsts (sym (texts-view i v at))

  codes-view : (i : ℕ) (v : Seen) → slice_get views i ≡ Some v
      → codes_among (all_texts (take (i + 1) views)) v ≡ codes_among (all_texts views) v
  codes-view i v at =
      let seen = texts_of (joined_items (take i views)) in
      let now = all_texts (take (i + 1) views) in
      ap (λ l. shown (int int32) l) (codes_grown v.items now (rest_from (i + 1)) (λ t h.
      is_among-firsts (texts_of (joined_items (take (i + 1) views))) t ∙ ap (λ l. is_among l t) (texts-view i v at)
      ∙ list_any-append (bytes_eq t) seen (texts_of v.items) ∙ or-right (is_among seen t) (is_among (texts_of v.items) t) h))
      ∙ ap (λ l. codes_among l v) (sym (grown (i + 1)))

  pub Unified-view : (i : ℕ) (v a : Seen) (pool wider : List (List ℕ)) (codes more : List Seen) → Unified views i pool codes
      → slice_get views i ≡ Some v → is_too_full wider ≡ false → wider ≡ firsts (pool ++ texts_of v.items)
      → a ≡ codes_among wider v → more ≡ codes ++ a ∷ [] → Unified views (i + 1) wider more
  Unified-view i v a pool wider codes more is at fits widened made pushed =
      let now : wider ≡ all_texts (take (i + 1) views) = widened ∙ pool-view i v pool at is.pool_is in
      let f = codes_among (all_texts views) in
      record {
        pool_is = now;
        fits = fits;
        codes_are = pushed ∙ ap (λ l. l ++ a ∷ []) is.codes_are
            ∙ ap (λ b. map f (take i views) ++ b ∷ []) (made ∙ ap (λ l. codes_among l v) now ∙ codes-view i v at)
            ∙ sym (map-append f (take i views) (v ∷ [])) ∙ ap (map f) (sym (take-view i v at));
      }

  -- Texts that are too many with one column more are so among all.
  pub full_in_views : (i : ℕ) (v : Seen) (pool : List (List ℕ)) → slice_get views i ≡ Some v → pool ≡ all_texts (take i views)
      → is_too_full (firsts (pool ++ texts_of v.items)) ≡ true → is_too_full (all_texts views) ≡ true
  full_in_views i v pool at is full =
      ap is_too_full (grown (i + 1)) ∙ is_too_full-append (all_texts (take (i + 1) views)) (rest_from (i + 1))
      (ap is_too_full (sym (pool-view i v pool at is)) ∙ full)

-- One text more in the dictionary.
pub text_added : (ts : List (List ℕ)) (i : ℕ) (o : Option (List ℕ)) (before after : List Item) → i < length ts → o ≡ slice_get ts i
    → before ≡ map text (take i ts) → after ≡ before ++ item_of_text o ∷ [] → after ≡ map text (take (i + 1) ts)
text_added ts i o before after below is are pushed =
    pushed ∙ ap (λ o. before ++ item_of_text o ∷ []) (is ∙ slice_get-get_or ts i [] below) ∙ ap (λ l. l ++ text (get_or ts i []) ∷ []) are
    ∙ sym (map-append text (take i ts) (get_or ts i [] ∷ [])) ∙ ap (map text) (sym (take_more ts i [] below))

pub text_bytes-map : (ts : List (List ℕ)) → text_bytes (map text ts) ≡ byte_count ts
text_bytes-map ts = fold-map (λ a x. a + text_length x) text 0 ts

-- And its bytes fit where those of all texts do.
pub text_fits : (ts : List (List ℕ)) (i : ℕ) (o : Option (List ℕ)) (before : List Item) → i < length ts → o ≡ slice_get ts i
    → before ≡ map text (take i ts) → is_too_full ts ≡ false → is_past (text_bytes (before ++ item_of_text o ∷ [])) ≡ false
text_fits ts i o before below is are fits =
    ap (λ l. is_past (text_bytes l)) (text_added ts i o before (before ++ item_of_text o ∷ []) below is are refl)
    ∙ ap is_past (text_bytes-map (take (i + 1) ts))
    ∙ le-ltb most_slots (byte_count (take (i + 1) ts)) (fits_from (take (i + 1) ts) (is_too_full-take ts (i + 1) fits)).1
