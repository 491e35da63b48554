-- Offsets that grow slot by slot, and what arrays of them show.
use Rattle.std.proofs.Common.{◌≡◌, ◌∙◌, ℕ, ◌+◌, ◌-◌, ◌*◌, ◌<◌, ◌≤◌, pos, List, [], ◌∷◌, ◌++◌, map, Bool, true, false, not, length, drop, cond, get_or, Option, Some, None, is_some, unwrap_or, ltb-false, lt-ltb, le-ltb, replicate, ap, sym, subst, refl, arith, length-append, zero-add}
use borrow.Author.Count.{below_more}
use Rattle.std.specs.List.{range_with_len, All}
use Rattle.std.proofs.lemmas.Int.{ints}
use Rattle.std.proofs.lemmas.List.{get_or_append_left}
use Rattle.std.proofs.lemmas.Nat.{row_fits}
use Rattle.std.proofs.lemmas.List.Elements.{All-get_or}
use Rattle.std.proofs.lemmas.List.FromFn.{fill_by_all, get_or-map-range_with_len, map-range_with_len_more, length-map-range_with_len}
use Rattle.std.proofs.lemmas.Simd.{map-map}
use Rattle.std.proofs.Math.Seq.{get_or-append_seam}
use Rattle.layout.specs.Prelude.{AreOffsetBytes, Item, Seen, is_null, is_valid_in, length_at, list, list_of, no_entries, null, slot_at, start_at, text}
use Rattle.types.specs.declared.offset_width.OffsetWidth.{OffsetWidth}
use Rattle.types.specs.declared.offset_width.OffsetWidth.TheVariants.{Narrow, Wide}
use Rattle.types.specs.Kind as kind
use Rattle.types.specs.Prelude.{IsOfType, Kind, bytes_of_number, is_full, is_negative, most_of, most_slots, natural, number_at, offset_type, size_of}
use Rattle.arrays.specs.Prelude.{AreFresh, AreLaid, AreTexts, AreTextsOf, IsBufferOf, IsText, cut, cut_texts, is_past, kept, lengths_where, show_lists, show_slots, show_texts, shown, total}
use Rattle.arrays.proofs.CutLemmas.{cut_by, cut-from, lists_cut, slot_length, Rises, texts_cut, total-from, total-push}
use Rattle.types.proofs.EncodingLemmas.{length-bytes_of_number, number_at-append-front, number_at-append-end}
use Rattle.layout.proofs.RangeLists.{map-range-below}
use Rattle.arrays.proofs.ValidityLemmas.{IsKept, kept_buffer}

-- ---- one offset more

-- The offsets behind which another one stands.
pub record AreFollowed (w : OffsetWidth) (n : ℕ) (before after : List ℕ) (end : ℕ) : Type 0 where
  pub front : (j : ℕ) → j < n + 1 → number_at (offset_type w) after j ≡ number_at (offset_type w) before j
  pub last : number_at (offset_type w) after (n + 1) ≡ pos end
  pub size : length after ≡ length before + size_of w

offset_fits : (w : OffsetWidth) (end : ℕ) → end ≤ most_of w → IsOfType (offset_type w) (pos end)
offset_fits Narrow end short = omega (arith, ints)
offset_fits Wide end short = omega (arith, ints)

pub offset_more : (w : OffsetWidth) (n : ℕ) (offsets : List ℕ) (end : ℕ) → length offsets ≡ (n + 1) * size_of w → end ≤ most_of w
    → AreFollowed w n offsets (offsets ++ bytes_of_number (offset_type w) (pos end)) end
offset_more w n offsets end size short =
    let fits : IsOfType (offset_type w) (pos end) = offset_fits w end short in
    record {
      front = λ j h. number_at-append-front (offset_type w) offsets (bytes_of_number (offset_type w) (pos end)) j (omega (arith, row_fits j (size_of w) (n + 1) (size_of w) h (omega arith), size));
      last = number_at-append-end (offset_type w) offsets (pos end) (n + 1) (omega arith) fits;
      size = omega (arith, length-append offsets (bytes_of_number (offset_type w) (pos end)), length-bytes_of_number (offset_type w) (pos end));
    }

start_same : (w : OffsetWidth) (n : ℕ) (before after : List ℕ) (end : ℕ) → AreFollowed w n before after end → (j : ℕ) → j < n + 1 → start_at w after j ≡ start_at w before j
start_same w n before after end is j h = ap natural (is.front j h)

start_last : (w : OffsetWidth) (n : ℕ) (before after : List ℕ) (end : ℕ) → AreFollowed w n before after end → start_at w after (n + 1) ≡ end
start_last w n before after end is = ap natural is.last

length_same : (w : OffsetWidth) (n : ℕ) (before after : List ℕ) (end : ℕ) → AreFollowed w n before after end → (j : ℕ) → j < n → length_at w after j ≡ length_at w before j
length_same w n before after end is j h =
    let here = start_same w n before after end is j (omega (arith, h)) in
    let next = start_same w n before after end is (j + 1) (omega (arith, h)) in
    ap (λ e. e - start_at w after j) next ∙ ap (λ s. start_at w before (j + 1) - s) here

bounds_more : (w : OffsetWidth) (n : ℕ) (before after : List ℕ) (most end : ℕ) → AreFollowed w n before after end → AreOffsetBytes w n before most → start_at w before n ≡ most → most ≤ end
    → length before ≡ (n + 1) * size_of w → AreOffsetBytes w (n + 1) after end
bounds_more w n before after most end is are ends le size =
    let last = start_last w n before after end is in
    let seam = start_same w n before after end is n (omega arith) in
    record {
      size = omega (arith, is.size, size);
      counted =
          λ j h.
          below_more (λ k. is_negative (number_at (offset_type w) after k) ≡ false) (n + 1) (λ k below. ap is_negative (is.front k below) ∙ are.counted k (omega (arith, below)))
          (ap is_negative is.last ∙ le-ltb end 0 (omega arith)) j (omega (arith, h));
      rising =
          below_more (λ j. start_at w after j ≤ start_at w after (j + 1)) n
          (λ j below.
          let here = start_same w n before after end is j (omega (arith, below)) in
          let next = start_same w n before after end is (j + 1) (omega (arith, below)) in
          let rise = are.rising j below in
          omega (arith, here, next, rise))
          (omega (arith, last, seam, ends, le));
      last = omega (arith, last);
    }

pub fresh-push : (w : OffsetWidth) (valid : List Bool) (offsets : List ℕ) (most more : ℕ) (b : Bool) → AreFresh w valid offsets most → (b ≡ false → more ≡ 0) → most + more ≤ most_of w
    → AreFresh w (valid ++ b ∷ []) (offsets ++ bytes_of_number (offset_type w) (pos (most + more))) (most + more)
fresh-push w valid offsets most more b is empty short =
    let n = length valid in
    let after = offsets ++ bytes_of_number (offset_type w) (pos (most + more)) in
    let count : length (valid ++ b ∷ []) ≡ n + 1 = length-append valid (b ∷ []) in
    let followed : AreFollowed w n offsets after (most + more) = offset_more w n offsets (most + more) is.size short in
    let last = start_last w n offsets after (most + more) followed in
    let seam = start_same w n offsets after (most + more) followed n (omega arith) in
    record {
      bounds = subst (λ m. AreOffsetBytes w m after (most + more)) (sym count) (bounds_more w n offsets after most (most + more) followed is.bounds is.ends (omega arith) is.size);
      first = start_same w n offsets after (most + more) followed 0 (omega arith) ∙ is.first;
      ends = ap (start_at w after) count ∙ last;
      size = omega (arith, followed.size, is.size, ap (λ m. (m + 1) * size_of w) count);
      short = short;
      empty =
          λ j below.
          below_more (λ k. get_or (valid ++ b ∷ []) k false ≡ false → length_at w after k ≡ 0) n
          (λ k under zero.
          length_same w n offsets after (most + more) followed k under
          ∙ is.empty k under (sym (get_or_append_left valid (b ∷ []) false k under) ∙ zero))
          (λ zero.
          let none = empty (sym (get_or-append_seam valid b [] false) ∙ zero) in
          omega (arith, last, seam, is.ends, none)) j (omega (arith, below, count));
    }

pub lengths-push : (w : OffsetWidth) (valid : List Bool) (offsets : List ℕ) (most more : ℕ) (b : Bool) → AreFresh w valid offsets most → most + more ≤ most_of w
    → lengths_where w (valid ++ b ∷ []) (offsets ++ bytes_of_number (offset_type w) (pos (most + more))) ≡ lengths_where w valid offsets ++ cond b (Some more) None ∷ []
unfolding lengths_where
lengths-push w valid offsets most more b is short =
    let n = length valid in
    let after = offsets ++ bytes_of_number (offset_type w) (pos (most + more)) in
    let followed : AreFollowed w n offsets after (most + more) = offset_more w n offsets (most + more) is.size short in
    let at = slot_length (λ j. get_or (valid ++ b ∷ []) j false) (start_at w after) in
    let at' = slot_length (λ j. get_or valid j false) (start_at w offsets) in
    let front : (j : ℕ) → j < n → at j ≡ at' j =
    λ j below.
    ap (λ v. cond v (Some (length_at w after j)) None) (get_or_append_left valid (b ∷ []) false j below)
    ∙ ap (λ l. cond (get_or valid j false) (Some l) None) (length_same w n offsets after (most + more) followed j below) in
    let last = start_last w n offsets after (most + more) followed in
    let seam = start_same w n offsets after (most + more) followed n (omega arith) in
    let long : length_at w after n ≡ more = omega (arith, last, seam, is.ends) in
    ap (λ m. map at (range_with_len 0 m)) (length-append valid (b ∷ []))
    ∙ map-range_with_len_more at 0 n n (zero-add n)
    ∙ ap (λ xs. xs ++ at n ∷ []) (map-range-below at at' 0 n (λ j below. ap at (zero-add j) ∙ front j below ∙ ap at' (sym (zero-add j))))
    ∙ ap (λ x. map at' (range_with_len 0 n) ++ x ∷ [])
    (ap (λ v. cond v (Some (length_at w after n)) None) (get_or-append_seam valid b [] false) ∙ ap (λ l. cond b (Some l) None) long)

pub length-lengths_where : (w : OffsetWidth) (valid : List Bool) (offsets : List ℕ) → length (lengths_where w valid offsets) ≡ length valid
unfolding lengths_where
length-lengths_where w valid offsets = length-map-range_with_len (slot_length (λ j. get_or valid j false) (start_at w offsets)) 0 (length valid)

pub fresh_rises : (w : OffsetWidth) (valid : List Bool) (offsets : List ℕ) (most : ℕ) → AreFresh w valid offsets most → Rises (λ j. get_or valid j false) (length valid) (start_at w offsets)
fresh_rises w valid offsets most is = record { rising = is.bounds.rising; empty = is.empty }

pub total-fresh : (w : OffsetWidth) (valid : List Bool) (offsets : List ℕ) (most : ℕ) → AreFresh w valid offsets most → total (lengths_where w valid offsets) ≡ most
unfolding lengths_where
total-fresh w valid offsets most is =
    let all = total-from (λ j. get_or valid j false) (start_at w offsets) (length valid) (fresh_rises w valid offsets most is) (length valid) 0 (zero-add (length valid)) in
    omega (arith, all, is.first, is.ends)

-- ---- a slot more

slot_again : (slot : Option ℕ) → cond (is_some slot) (Some (unwrap_or slot 0)) None ≡ slot
slot_again None = refl
slot_again (Some n) = refl

none_more : (slot : Option ℕ) → is_some slot ≡ false → unwrap_or slot 0 ≡ 0
none_more None h = refl
none_more (Some n) h = cc

-- The slots after one more.
pub record Grown (w : OffsetWidth) (valid : List Bool) (offsets : List ℕ) (most : ℕ) (old : List (Option ℕ)) (slot : Option ℕ) : Type 0 where
  pub fresh_still : AreFresh w valid offsets most
  pub one_more : lengths_where w valid offsets ≡ old ++ slot ∷ []

pub grown : (w : OffsetWidth) (valid flags : List Bool) (offsets bytes : List ℕ) (most more : ℕ) (b : Bool) (old : List (Option ℕ)) (slot : Option ℕ) → lengths_where w valid offsets ≡ old → AreFresh w valid offsets most
    → b ≡ is_some slot → more ≡ unwrap_or slot 0 → most + more ≤ most_of w → bytes ≡ offsets ++ bytes_of_number (offset_type w) (pos (most + more)) → flags ≡ valid ++ b ∷ []
    → Grown w flags bytes (most + more) old slot
grown w valid flags offsets bytes most more b old slot view_is is b_is more_is short bytes_are flags_are =
    let after = offsets ++ bytes_of_number (offset_type w) (pos (most + more)) in
    let fresh = fresh-push w valid offsets most more b is (λ zero. more_is ∙ none_more slot (sym b_is ∙ zero)) short in
    record {
      fresh_still = subst (λ o. AreFresh w flags o (most + more)) (sym bytes_are) (subst (λ v. AreFresh w v after (most + more)) (sym flags_are) fresh);
      one_more =
          ap (λ v. lengths_where w v bytes) flags_are
          ∙ ap (lengths_where w (valid ++ b ∷ [])) bytes_are
          ∙ lengths-push w valid offsets most more b is short
          ∙ ap (λ v. lengths_where w valid offsets ++ cond v (Some more) None ∷ []) b_is
          ∙ ap (λ m. lengths_where w valid offsets ++ cond (is_some slot) (Some m) None ∷ []) more_is
          ∙ ap (λ l. lengths_where w valid offsets ++ l ∷ []) (slot_again slot)
          ∙ ap (λ ls. ls ++ slot ∷ []) view_is;
    }

-- whether there is room for a slot
pub past-push : (old : List (Option ℕ)) (slot : Option ℕ) → most_slots < total old + unwrap_or slot 0 → is_past (total (old ++ slot ∷ [])) ≡ true
past-push old slot past = lt-ltb most_slots (total (old ++ slot ∷ [])) (omega (arith, past, total-push old slot))

pub within-push : (old : List (Option ℕ)) (slot : Option ℕ) → total old + unwrap_or slot 0 ≤ most_slots → is_past (total (old ++ slot ∷ [])) ≡ false
within-push old slot within = le-ltb most_slots (total (old ++ slot ∷ [])) (omega (arith, within, total-push old slot))

-- what lists may hold, offsets of either width count
pub few-counted : (w : OffsetWidth) (n : ℕ) → n ≤ most_slots → n ≤ most_of w
few-counted Narrow n h = h
few-counted Wide n h = omega arith

-- and what texts hold that aren't too many, where memory holds them
pub bytes-counted : (w : OffsetWidth) (n : ℕ) → is_full w n ≡ false → n < 9223372036854775808 → n ≤ most_of w
bytes-counted Narrow n h room = ltb-false most_slots n h
bytes-counted Wide n h room = omega arith

-- the slots after one more, whose end the offsets count
pub end-counted : (w : OffsetWidth) (valid : List Bool) (offsets : List ℕ) (most : ℕ) (old : List (Option ℕ)) (slot : Option ℕ) → lengths_where w valid offsets ≡ old → AreFresh w valid offsets most
    → total (old ++ slot ∷ []) ≤ most_of w → most + unwrap_or slot 0 ≤ most_of w
end-counted w valid offsets most old slot view_is is fits =
    omega (arith, fits, total-push old slot, ap total (sym view_is), total-fresh w valid offsets most is)

-- ---- no slots

first_zero : (w : OffsetWidth) → number_at (offset_type w) (replicate (size_of w) 0) 0 ≡ pos 0
unfolding number_at
first_zero Narrow = refl
first_zero Wide = refl

zeros_long : (w : OffsetWidth) → length {A = ℕ} (replicate (size_of w) 0) ≡ 1 * size_of w
zeros_long Narrow = refl
zeros_long Wide = refl

fresh-zeros : (w : OffsetWidth) → AreFresh w [] (replicate (size_of w) 0) 0
fresh-zeros w =
    let zeros : List ℕ = replicate (size_of w) 0 in
    record {
      bounds = record {
        size = omega (arith, zeros_long w);
        counted = λ j h. ap (λ k. is_negative (number_at (offset_type w) zeros k)) (omega arith) ∙ ap is_negative (first_zero w);
        rising = λ j h. absurd (omega arith);
        last = omega (arith, ap natural (first_zero w));
      };
      first = ap natural (first_zero w);
      ends = ap natural (first_zero w);
      size = zeros_long w;
      short = omega arith;
      empty = λ j h. absurd (omega arith);
    }

zero_bytes : (w : OffsetWidth) → bytes_of_number (offset_type w) (pos 0) ≡ replicate (size_of w) 0
unfolding bytes_of_number
zero_bytes Narrow = refl
zero_bytes Wide = refl

pub fresh-none : (w : OffsetWidth) (valid : List Bool) (offsets : List ℕ) → valid ≡ [] → offsets ≡ bytes_of_number (offset_type w) (pos 0) → AreFresh w valid offsets 0
fresh-none w valid offsets no_slots first =
    subst (λ v. AreFresh w v offsets 0) (sym no_slots) (subst (λ o. AreFresh w [] o 0) (sym (first ∙ zero_bytes w)) (fresh-zeros w))

pub lengths-none : (w : OffsetWidth) (valid : List Bool) (offsets : List ℕ) → valid ≡ [] → lengths_where w valid offsets ≡ []
unfolding lengths_where
lengths-none w valid offsets no_slots = ap (λ (v : List Bool). map (slot_length (λ j. get_or v j false) (start_at w offsets)) (range_with_len 0 (length v))) no_slots

-- ---- offsets in memory

listed : (valid : List Bool) → valid ≡ map (λ i. get_or valid i false) (range_with_len 0 (length valid))
listed valid = fill_by_all (λ i. get_or valid i false) valid (length valid) false refl (λ k h. refl)

laid_as : (w : OffsetWidth) (valid : List Bool) (offsets : List ℕ) (most : ℕ) (bitmap : Option (List Bool)) (validity : Option (List ℕ)) → AreFresh w valid offsets most → length valid ≤ most_slots
    → bitmap ≡ kept valid → IsBufferOf validity bitmap → AreLaid w (lengths_where w valid offsets) (length valid) validity offsets
unfolding lengths_where
laid_as w valid offsets most bitmap validity is short kept_is holds =
    let n = length valid in
    let at : ℕ → Bool = λ i. get_or valid i false in
    let packed : IsKept n at validity = kept_buffer n at validity bitmap (kept_is ∙ ap kept (listed valid)) holds in
    let same : (i : ℕ) → i < n → at (0 + i) ≡ is_valid_in validity (0 + i) =
    λ i below. ap at (zero-add i) ∙ sym (packed.each i below) ∙ ap (is_valid_in validity) (sym (zero-add i)) in
    record {
      short = short;
      long = packed.long;
      bounds = subst (λ m. AreOffsetBytes w n offsets m) (sym (total-fresh w valid offsets most is)) is.bounds;
      first = is.first;
      needed = packed.shown ∙ ap kept (map-range-below at (is_valid_in validity) 0 n same);
      slots =
          map-range-below (slot_length at (start_at w offsets)) (slot_length (is_valid_in validity) (start_at w offsets)) 0 n
          (λ i below. ap (λ v. cond v (Some (length_at w offsets (0 + i))) None) (same i below));
      empty = λ j below zero. is.empty j below (sym (packed.each j below) ∙ zero);
    }

pub laid : (w : OffsetWidth) (valid : List Bool) (offsets bytes : List ℕ) (most n : ℕ) (old : List (Option ℕ)) (bitmap : Option (List Bool)) (validity : Option (List ℕ)) → lengths_where w valid offsets ≡ old
    → AreFresh w valid offsets most → n ≡ length valid → n ≤ most_slots → bitmap ≡ kept valid → IsBufferOf validity bitmap → bytes ≡ offsets → AreLaid w old n validity bytes
laid w valid offsets bytes most n old bitmap validity view_is is count short kept_is holds bytes_are =
    let same = laid_as w valid offsets most bitmap validity is (omega (arith, count, short)) kept_is holds in
    subst (λ o. AreLaid w old n validity o) (sym bytes_are) (subst (λ m. AreLaid w old m validity offsets) (sym count) (subst (λ ls. AreLaid w ls (length valid) validity offsets) view_is same))

-- ---- what arrays of them show

column : Kind → Option (List Bool) → List Item → Seen
column k v items = record { kind = k; validity = v; items = items; codes = []; entries = no_entries }

pub items-laid : {A : Type 0} (w : OffsetWidth) (wrap : List A → Item) (lengths : List (Option ℕ)) (n : ℕ) (validity : Option (List ℕ)) (offsets : List ℕ) (values : List A) → AreLaid w lengths n validity offsets
    → cut_by wrap null lengths values ≡ map (λ j. cond (is_valid_in validity j) (wrap (slot_at w offsets values j)) null) (range_with_len 0 n)
items-laid w wrap lengths n validity offsets values is =
    ap (λ ls. cut_by wrap null ls values) is.slots
    ∙ ap (λ s. cut_by wrap null (map (slot_length (is_valid_in validity) (start_at w offsets)) (range_with_len 0 n)) (drop s values)) (sym is.first)
    ∙ cut-from wrap null (is_valid_in validity) (start_at w offsets) n values (record { rising = is.bounds.rising; empty = is.empty }) n 0 (zero-add n)

there : (b : Bool) (x : Item) → is_null x ≡ false → not (is_null (cond b x null)) ≡ b
there true x h = ap not h
there false x h = refl

pub shown-laid : {A : Type 0} (w : OffsetWidth) (wrap : List A → Item) (k : Kind) (lengths : List (Option ℕ)) (n : ℕ) (validity : Option (List ℕ)) (offsets : List ℕ) (values : List A)
    → ((xs : List A) → is_null (wrap xs) ≡ false) → AreLaid w lengths n validity offsets
    → show_slots k n validity (λ j. wrap (slot_at w offsets values j)) ≡ shown k (cut_by wrap null lengths values)
unfolding column
shown-laid w wrap k lengths n validity offsets values wrapped is =
    let slot : ℕ → Item = λ j. cond (is_valid_in validity j) (wrap (slot_at w offsets values j)) null in
    let items : map slot (range_with_len 0 n) ≡ cut_by wrap null lengths values = sym (items-laid w wrap lengths n validity offsets values is) in
    let known : map (λ x. not (is_null x)) (map slot (range_with_len 0 n)) ≡ map (is_valid_in validity) (range_with_len 0 n) =
    map-map (λ x. not (is_null x)) slot (range_with_len 0 n)
    ∙ map-range-below (λ j. not (is_null (slot j))) (is_valid_in validity) 0 n (λ j below. there (is_valid_in validity (0 + j)) (wrap (slot_at w offsets values (0 + j))) (wrapped (slot_at w offsets values (0 + j)))) in
    ap (λ v. column k v (map slot (range_with_len 0 n))) (is.needed ∙ ap kept (sym known))
    ∙ ap (shown k) items

pub texts-laid : (w : OffsetWidth) (lengths : List (Option ℕ)) (n : ℕ) (validity : Option (List ℕ)) (offsets bytes : List ℕ) → AreLaid w lengths n validity offsets → AreTextsOf lengths bytes
    → AreTexts w n validity offsets bytes
texts-laid w lengths n validity offsets bytes is texts = record {
  each =
      λ j below valid.
      let slot : ℕ → Item = λ i. cond (is_valid_in validity i) (text (slot_at w offsets bytes i)) null in
      let all = subst (All IsText) (texts_cut lengths bytes ∙ items-laid w text lengths n validity offsets bytes is) texts.utf8 in
      let here = All-get_or IsText (map slot (range_with_len 0 n)) j null (omega (arith, below, length-map-range_with_len slot 0 n)) all in
      let same : get_or (map slot (range_with_len 0 n)) j null ≡ text (slot_at w offsets bytes j) =
      get_or-map-range_with_len slot 0 n j j null below (zero-add j) ∙ ap (λ v. cond v (text (slot_at w offsets bytes j)) null) valid in
      subst IsText same here;
}

pub shown-texts : (w : OffsetWidth) (lengths : List (Option ℕ)) (n : ℕ) (validity : Option (List ℕ)) (offsets bytes : List ℕ) → AreLaid w lengths n validity offsets
    → show_texts w n validity offsets bytes ≡ shown (kind.texts w) (cut_texts lengths bytes)
shown-texts w lengths n validity offsets bytes is =
    shown-laid w text (kind.texts w) lengths n validity offsets bytes (λ xs. refl) is ∙ ap (shown (kind.texts w)) (sym (texts_cut lengths bytes))

pub shown-lists : (w : OffsetWidth) (lengths : List (Option ℕ)) (n : ℕ) (validity : Option (List ℕ)) (offsets : List ℕ) (child : Seen) → AreLaid w lengths n validity offsets
    → show_lists w n validity offsets child ≡ shown (kind.lists w child.kind) (cut lengths child.items)
shown-lists w lengths n validity offsets child is =
    shown-laid w (λ xs. list (list_of xs)) (kind.lists w child.kind) lengths n validity offsets child.items (λ xs. refl) is
    ∙ ap (shown (kind.lists w child.kind)) (sym (lists_cut lengths child.items))
