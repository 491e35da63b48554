-- Texts of picked rows, one after the other.
use Rattle.std.proofs.Common.{◌≡◌, ◌∙◌, ℕ, suc, ◌+◌, ◌<◌, ◌≤◌, pos, List, [], ◌∷◌, ◌++◌, length, map, take, drop, Bool, true, false, cond, Option, None, Some, is_some, unwrap_or, IsUtf8, ap, sym, refl, subst, arith, get_or, append-nil, length-append, lt-ltb}
use Rattle.std.specs.Prelude.{All, slice_get}
use Rattle.std.specs.List.{range_with_len}
use Rattle.std.proofs.lemmas.Grind.{flat_map-append}
use Rattle.std.proofs.lemmas.List.{map-append, length-map}
use Rattle.std.proofs.lemmas.List.Sums.{sum_by-cons, sum_by_push}
use Rattle.std.proofs.lemmas.Option.{get_or_from_slice_get}
use Rattle.std.proofs.lemmas.Simd.{map-map}
use Rattle.std.proofs.Math.Seq.{take-append_seam}
use Rattle.arrays.specs.Prelude.{AreLaid, AreOffsetBytes, AreTexts, AreTextsOf, HasTexts, IsBufferOf, IsText, Item, Narrow, OffsetWidth, Seen, Wide, boolean, bytes_of_number, cut_texts, int, is_full, is_past, is_validity_short, item_of_text, kept, list, most_of, most_slots, null, of_slot, offset_type, show_texts, shown, text, text_bytes, text_length, total, valid_in}
use Rattle.arrays.specs.Kind as kind
use Rattle.arrays.proofs.LaidLemmas.{fresh-none, grown, laid, lengths-none, shown-texts, texts-laid, total-fresh}
use Rattle.arrays.proofs.PartLemmas.{item_slot}
use Rattle.select.specs.Prelude.{AreOffsetsOf, IsPick, all_bytes, bytes_in, is_stored, is_valid, picked, picked_at, text_size}
use Rattle.select.proofs.BigLemmas.{full-picked}
use Rattle.select.proofs.ListLemmas.{drop-front, get_or-map-any}
use Rattle.select.proofs.PickLemmas.{by_place}

-- ---- one text more

present_sized : (o : Option (List ℕ)) → is_valid (item_of_text o) ≡ is_some (text_size (item_of_text o))
present_sized None = refl
present_sized (Some t) = refl

sized_length : (o : Option (List ℕ)) → unwrap_or (text_size (item_of_text o)) 0 ≡ text_length (item_of_text o)
sized_length None = refl
sized_length (Some t) = refl

pub offsets-none : (w : OffsetWidth) (offsets : List ℕ) → offsets ≡ bytes_of_number (offset_type w) (pos 0) → AreOffsetsOf w [] offsets 0
offsets-none w offsets is = record { fresh = fresh-none w [] offsets refl is; sizes = lengths-none w [] offsets refl }

pub offsets-more : (w : OffsetWidth) (items longer : List Item) (offsets more : List ℕ) (end size : ℕ) (o : Option (List ℕ)) (x : Item) → AreOffsetsOf w items offsets end → x ≡ item_of_text o → longer ≡ items ++ x ∷ []
    → size ≡ text_length x → end + size ≤ most_of w → more ≡ offsets ++ bytes_of_number (offset_type w) (pos (end + size)) → AreOffsetsOf w longer more (end + size)
offsets-more w items longer offsets more end size o x are is longer_is size_is short more_is =
    let slot = text_size (item_of_text o) in
    let flags : map is_valid longer ≡ map is_valid items ++ is_valid (item_of_text o) ∷ [] =
    ap (map is_valid) longer_is ∙ map-append is_valid items (x ∷ []) ∙ ap (λ y. map is_valid items ++ is_valid y ∷ []) is in
    let next = grown w (map is_valid items) (map is_valid longer) offsets more end size (is_valid (item_of_text o)) (map text_size items) slot are.sizes are.fresh (present_sized o)
    (size_is ∙ ap text_length is ∙ sym (sized_length o)) short more_is flags in
    record {
      fresh = next.fresh_still;
      sizes = next.one_more ∙ ap (λ y. map text_size items ++ text_size y ∷ []) (sym is) ∙ sym (map-append text_size items (x ∷ [])) ∙ ap (map text_size) (sym longer_is);
    }

pub bytes-more : (items longer : List Item) (bytes more : List ℕ) (x : Item) → bytes ≡ all_bytes items → longer ≡ items ++ x ∷ [] → more ≡ bytes ++ bytes_in x → more ≡ all_bytes longer
bytes-more items longer bytes more x is longer_is more_is =
    more_is
    ∙ ap (λ b. b ++ bytes_in x) is
    ∙ ap (λ b. all_bytes items ++ b) (sym (append-nil (bytes_in x)))
    ∙ sym (flat_map-append bytes_in items (x ∷ []))
    ∙ ap all_bytes (sym longer_is)

-- no offset is past what wide ones count
pub most-counted : (w : OffsetWidth) (n : ℕ) → n ≤ most_of w → n ≤ most_of Wide
most-counted Narrow n h = omega arith
most-counted Wide n h = h

-- ---- what texts are

-- A text, or null.
abbrev pub IsTextItem : Item → Type 0
IsTextItem null = Unit {0}
IsTextItem (text t) = IsUtf8 t
IsTextItem x = ⊥

valid-text : (bytes : List ℕ) (b : Bool) → (b ≡ true → IsUtf8 bytes) → IsTextItem (cond b (text bytes) null)
valid-text bytes true utf8 = utf8 refl
valid-text bytes false utf8 = tt

abbrev slot_item : List ℕ → List ℕ → Seen → ℕ → Item
slot_item offsets bytes s i = cond (valid_in s.validity i) (text (of_slot offsets bytes i)) null

item_there : (offsets bytes : List ℕ) (s : Seen) (i : ℕ) → HasTexts offsets bytes s → i < length s.items → get_or s.items i null ≡ slot_item offsets bytes s i
item_there offsets bytes s i has below = get_or_from_slice_get s.items i (slot_item offsets bytes s i) null (item_slot (λ j. text (of_slot offsets bytes j)) s i has.texts below)

text_picked : (offsets bytes : List ℕ) (s : Seen) (p : Option ℕ) → HasTexts offsets bytes s → IsPick (length s.items) p → IsTextItem (picked_at s.items p)
text_picked offsets bytes s None has within = tt
text_picked offsets bytes s (Some i) has within =
    subst IsTextItem (sym (item_there offsets bytes s i has within)) (valid-text (of_slot offsets bytes i) (valid_in s.validity i) (λ valid. has.utf8 i within valid))

pub texts_picked : (offsets bytes : List ℕ) (s : Seen) (picks : List (Option ℕ)) → HasTexts offsets bytes s → All (IsPick (length s.items)) picks → All IsTextItem (picked s.items picks)
texts_picked offsets bytes s picks has within k d below =
    let few : k < length picks = omega (arith, below, length-map picks (picked_at s.items)) in
    subst IsTextItem (sym (get_or-map-any (picked_at s.items) picks k d None few)) (text_picked offsets bytes s (get_or picks k None) has (within k None few))

present_slot : (b : Bool) (t : List ℕ) → b ≡ is_valid (cond b (text t) null)
present_slot true t = refl
present_slot false t = refl

stored_present : (offsets bytes : List ℕ) (s : Seen) (p : Option ℕ) → HasTexts offsets bytes s → IsPick (length s.items) p → is_stored s.validity p ≡ is_valid (picked_at s.items p)
stored_present offsets bytes s None has within = refl
stored_present offsets bytes s (Some i) has within =
    present_slot (valid_in s.validity i) (of_slot offsets bytes i) ∙ ap is_valid (sym (item_there offsets bytes s i has within))

-- the slots that are valid are those that hold a text
pub validity-present : (offsets bytes : List ℕ) (s : Seen) (picks : List (Option ℕ)) → HasTexts offsets bytes s → All (IsPick (length s.items)) picks
    → map (λ j. is_stored s.validity (get_or picks j None)) (range_with_len 0 (length picks)) ≡ map is_valid (picked s.items picks)
validity-present offsets bytes s picks has within =
    by_place (λ p. is_valid (picked_at s.items p)) picks (λ j. is_stored s.validity (get_or picks j None)) None
    (λ j below. stored_present offsets bytes s (get_or picks j None) has (within j None below))
    ∙ sym (map-map is_valid (picked_at s.items) picks)

-- ---- texts cut again from their bytes

tail : (P : Item → Type 0) (x : Item) (xs : List Item) → All P (x ∷ xs) → All P xs
tail P x xs all = λ k d below. all (suc k) d (omega (arith, below))

pub texts_again : (items : List Item) → All IsTextItem items → cut_texts (map text_size items) (all_bytes items) ≡ items
texts_again [] all = refl
texts_again (null ∷ xs) all = ap (λ l. null ∷ l) (texts_again xs (tail IsTextItem null xs all))
texts_again (int z ∷ xs) all = absurd (all 0 null (omega arith))
texts_again (boolean b ∷ xs) all = absurd (all 0 null (omega arith))
texts_again (list ys ∷ xs) all = absurd (all 0 null (omega arith))
texts_again (text t ∷ xs) all =
    ap (λ l. text l ∷ cut_texts (map text_size xs) (drop (length t) (t ++ all_bytes xs))) (take-append_seam t (all_bytes xs))
    ∙ ap (λ l. text t ∷ cut_texts (map text_size xs) l) (drop-front t (all_bytes xs))
    ∙ ap (λ l. text t ∷ l) (texts_again xs (tail IsTextItem (text t) xs all))

size_bytes : (x : Item) → unwrap_or (text_size x) 0 ≡ length (bytes_in x)
size_bytes null = refl
size_bytes (int z) = refl
size_bytes (boolean b) = refl
size_bytes (text t) = refl
size_bytes (list xs) = refl

pub total-sizes : (items : List Item) → total (map text_size items) ≡ length (all_bytes items)
total-sizes [] = refl
total-sizes (x ∷ xs) =
    omega (arith, sum_by-cons (λ (o : Option ℕ). unwrap_or o 0) (text_size x) (map text_size xs), size_bytes x, total-sizes xs, length-append (bytes_in x) (all_bytes xs))

length_size : (x : Item) → text_length x ≡ unwrap_or (text_size x) 0
length_size null = refl
length_size (int z) = refl
length_size (boolean b) = refl
length_size (text t) = refl
length_size (list xs) = refl

sizes_bytes : (items : List Item) → text_bytes items ≡ total (map text_size items)
sizes_bytes [] = refl
sizes_bytes (x ∷ xs) =
    omega (arith, sum_by-cons text_length x xs, sum_by-cons (λ (o : Option ℕ). unwrap_or o 0) (text_size x) (map text_size xs), length_size x, sizes_bytes xs)

pub end-bytes : (w : OffsetWidth) (items : List Item) (offsets : List ℕ) (end : ℕ) → AreOffsetsOf w items offsets end → text_bytes items ≡ end
end-bytes w items offsets end are = sizes_bytes items ∙ ap total (sym are.sizes) ∙ total-fresh w (map is_valid items) offsets end are.fresh

-- texts that are too many with one more are so among all
pub full-offsets : (w : OffsetWidth) (items : List Item) (picks : List (Option ℕ)) (j : ℕ) (pick : Option ℕ) (offsets : List ℕ) (end size : ℕ) (x : Item) → slice_get picks j ≡ Some pick
    → AreOffsetsOf w (picked items (take j picks)) offsets end → x ≡ picked_at items pick → size ≡ text_length x → is_full w (end + size) ≡ true → is_full w (text_bytes (picked items picks)) ≡ true
full-offsets w items picks j pick offsets end size x at are is size_is full =
    let old = picked items (take j picks) in
    full-picked w items picks j pick old x at refl is
    (ap (is_full w) (omega (arith, size_is, end-bytes w old offsets end are, sum_by_push text_length old x)) ∙ full)

-- ---- the finished column

plain_text : (x : Item) → IsTextItem x → IsText x
plain_text null h = tt
plain_text (int z) h = tt
plain_text (boolean b) h = tt
plain_text (text t) h = h
plain_text (list xs) h = tt

pub record AreFinished (w : OffsetWidth) (items : List Item) (n : ℕ) (validity : Option (List ℕ)) (offsets bytes : List ℕ) : Type 0 where
  pub bounds : AreOffsetBytes w n offsets (length bytes)
  pub texts : AreTexts w n validity offsets bytes
  pub long : is_validity_short n validity ≡ false
  pub shows : show_texts w n validity offsets bytes ≡ shown (kind.texts w) items

pub texts_finished : (w : OffsetWidth) (items : List Item) (n end : ℕ) (offsets laid_offsets bytes laid_bytes : List ℕ) (validity : Option (List ℕ)) → AreOffsetsOf w items offsets end → All IsTextItem items
    → n ≡ length items → n ≤ most_slots → IsBufferOf validity (kept (map is_valid items)) → laid_offsets ≡ offsets → bytes ≡ all_bytes items → laid_bytes ≡ bytes
    → AreFinished w items n validity laid_offsets laid_bytes
texts_finished w items n end offsets laid_offsets bytes laid_bytes validity are all count short holds offsets_are bytes_are laid_are =
    let sizes = map text_size items in
    let lay : AreLaid w sizes n validity laid_offsets =
    laid w (map is_valid items) offsets laid_offsets end n sizes (kept (map is_valid items)) validity are.sizes are.fresh (count ∙ sym (length-map items is_valid)) short refl holds offsets_are in
    let present : laid_bytes ≡ all_bytes items = laid_are ∙ bytes_are in
    let again : cut_texts sizes laid_bytes ≡ items = ap (cut_texts sizes) present ∙ texts_again items all in
    let whole : total sizes ≡ length laid_bytes = total-sizes items ∙ ap length (sym present) in
    let texts : AreTextsOf sizes laid_bytes = record { whole = whole; utf8 = subst (λ (l : List Item). All IsText l) (sym again) (λ k d below. plain_text (get_or items k d) (all k d below)) } in
    record {
      bounds = subst (AreOffsetBytes w n laid_offsets) whole lay.bounds;
      texts = texts-laid w sizes n validity laid_offsets laid_bytes lay texts;
      long = lay.long;
      shows = shown-texts w sizes n validity laid_offsets laid_bytes lay ∙ ap (shown (kind.texts w)) again;
    }

pub texts_done : (w : OffsetWidth) (starts content : List ℕ) (s : Seen) (picks : List (Option ℕ)) (n end : ℕ) (offsets laid_offsets bytes laid_bytes : List ℕ) (seen : Option (List Bool)) (validity : Option (List ℕ))
    → HasTexts starts content s → All (IsPick (length s.items)) picks → AreOffsetsOf w (picked s.items picks) offsets end → n ≡ length picks → n ≤ most_slots → seen ≡ s.validity
    → IsBufferOf validity (kept (map (λ j. is_stored seen (get_or picks j None)) (range_with_len 0 (length picks)))) → laid_offsets ≡ offsets → bytes ≡ all_bytes (picked s.items picks) → laid_bytes ≡ bytes
    → AreFinished w (picked s.items picks) n validity laid_offsets laid_bytes
texts_done w starts content s picks n end offsets laid_offsets bytes laid_bytes seen validity has within are count short same holds offsets_are bytes_are laid_are =
    let present = ap (λ v. kept (map (λ j. is_stored v (get_or picks j None)) (range_with_len 0 (length picks)))) same ∙ ap kept (validity-present starts content s picks has within) in
    texts_finished w (picked s.items picks) n end offsets laid_offsets bytes laid_bytes validity are (texts_picked starts content s picks has within) (count ∙ sym (length-map picks (picked_at s.items))) short
    (subst (IsBufferOf validity) present holds) offsets_are bytes_are laid_are
