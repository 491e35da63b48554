-- Columns of texts that grow by many slots, of which offsets say how long they are.
use Rattle.std.proofs.Common.{◌≡◌, ◌∙◌, inl, inr, ℕ, zero, suc, ◌+◌, ◌-◌, ◌*◌, ◌<◌, ◌≤◌, List, [], ◌∷◌, ◌++◌, map, take, drop, cond, Bool, true, false, get_or, length, Option, Some, None, Result, Ok, Err, IfErr, IsErrAnd, IsUtf8, ap, sym, subst, refl, arith, true≢false, zero-add, add-zero, length-append, length-drop, replicate}
use borrow.Author.Count.{below_more}
use Rattle.std.specs.List.{range_with_len, All}
use Rattle.std.proofs.lemmas.List.{append_assoc, get_or-append-add, get_or_append_left, get_or-replicate, length-replicate, length-take-le, take-append-drop, take_all, map-append, take-map, take_more}
use Rattle.std.proofs.lemmas.List.FromFn.{get_or-map-range_with_len, length-map-range_with_len, map-range_with_len_more, take-map-range_with_len}
use Rattle.std.proofs.lemmas.List.Sums.{sum_by-append, sum_by-take-le}
use Rattle.std.proofs.lemmas.Str.{IsUtf8-from_is_utf8}
use Rattle.std.proofs.lemmas.Nat.{row_fits}
use Rattle.colbits.specs.Slice.{slice}
use Rattle.colbits.proofs.BitLemmas.{drop-map-range, map-range-same}
use Rattle.types.specs.declared.offset_width.OffsetWidth.{OffsetWidth}
use Rattle.types.specs.Prelude.{is_full, is_negative, most_of, natural, number_at, offset_type, size_of}
use Rattle.types.proofs.EncodingLemmas.{number_at-append-front, number_at-append-past}
use Rattle.layout.specs.Prelude.{AreBytesOf, AreOffsetBytes, AreOffsets, Item, length_at, length_of, null, of_slot, start_at, start_of, text, valid_in}
use Rattle.layout.proofs.RangeLists.{map-range-below}
use Rattle.layout.proofs.OffsetParts.{ends_within}
use Rattle.arrays.specs.declared.builder.fault.BuildFault.{BuildFault}
use Rattle.arrays.specs.declared.view.texts.Texts.{Texts}
use Rattle.arrays.specs.Prelude.{AreFresh, AreTextsOf, IsBuildFault, IsFull, IsText, cut_texts, item_of_text, items_of_texts, lengths_by, lengths_where, text_bytes, text_in, text_items, text_length, total}
use Rattle.arrays.proofs.LaidLemmas.{total-fresh}
use Rattle.arrays.proofs.CutLemmas.{Rises, TextsGrown, bytes_grown, cut-from, cut-taken, full-grows, slot_length, texts_cut, texts_grow, total-from, total-joined, total-push}

abbrev all_valid : ℕ → Bool
all_valid j = true

rises_all : (n : ℕ) (offsets : List ℕ) (most : ℕ) → AreOffsets n offsets most → (i : ℕ) → i ≤ n → Rises all_valid i (start_of offsets)
rises_all n offsets most are i within = record {
  rising = λ j below. are.rising j (omega (arith, within, below));
  empty = λ j below no. absurd (true≢false no);
}

pub lengths_by-more : (offsets : List ℕ) (i : ℕ) → lengths_by offsets (i + 1) ≡ lengths_by offsets i ++ Some (length_of offsets i) ∷ []
lengths_by-more offsets i = map-range_with_len_more (λ j. Some (length_of offsets j)) 0 i i (zero-add i)

pub length-lengths_by : (offsets : List ℕ) (i : ℕ) → length (lengths_by offsets i) ≡ i
length-lengths_by offsets i = length-map-range_with_len (λ j. Some (length_of offsets j)) 0 i

pub total-lengths_by : (n : ℕ) (offsets : List ℕ) (most : ℕ) → AreOffsets n offsets most → (i : ℕ) → i ≤ n → total (lengths_by offsets i) + start_of offsets 0 ≡ start_of offsets i
total-lengths_by n offsets most are i within = total-from all_valid (start_of offsets) i (rises_all n offsets most are i within) i 0 (zero-add i)

-- the first slots are no longer together than all
pub lengths-fit : (n : ℕ) (offsets : List ℕ) (most : ℕ) → AreOffsets n offsets most → (old now : List (Option ℕ)) (i : ℕ) → i < n → now ≡ old ++ lengths_by offsets i
    → total (now ++ Some (length_of offsets i) ∷ []) ≤ total (old ++ lengths_by offsets n)
lengths-fit n offsets most are old now i below is =
    let here = total-lengths_by n offsets most are i (omega (arith, below)) in
    let all = total-lengths_by n offsets most are n (omega arith) in
    let rise = are.rising i below in
    let end = ends_within n offsets (start_of offsets n) (record { size = are.size; rising = are.rising; last = omega arith }) (i + 1) (omega (arith, below)) in
    omega (arith, here, all, rise, end, ap total is, total-push now (Some (length_of offsets i)), total-joined old (lengths_by offsets i), total-joined old (lengths_by offsets n))

-- ---- offsets that go on from the last one

-- a fact of the first numbers and of so many behind them
each_of_both : (P : ℕ → Type 0) (m n : ℕ) → ((j : ℕ) → j < m → P j) → ((j : ℕ) → j < n → P (m + j)) → (j : ℕ) → j < m + n → P j
each_of_both P m zero front back j below = front j (omega (arith, below))
each_of_both P m (suc n) front back j below =
    below_more P (m + n) (each_of_both P m n front (λ k under. back k (omega (arith, under)))) (back n (omega arith)) j (omega (arith, below))

map-range-joined : {X : Type 0} (f : ℕ → X) (m n : ℕ) → map f (range_with_len 0 (m + n)) ≡ map f (range_with_len 0 m) ++ map (λ j. f (m + j)) (range_with_len 0 n)
map-range-joined f m n =
    let all = map f (range_with_len 0 (m + n)) in
    let left : m + n - m ≡ n = omega arith in
    sym (take-append-drop m all)
    ∙ ap (λ ys. ys ++ drop m all) (take-map-range_with_len f 0 (m + n) m (omega arith))
    ∙ ap (λ ys. map f (range_with_len 0 m) ++ ys)
    (drop-map-range f 0 (m + n) m (omega arith)
    ∙ ap (λ k. map f (range_with_len (0 + m) k)) left
    ∙ map-range-same f (λ j. f (m + j)) (0 + m) 0 n (λ j. ap (λ k. f (k + j)) (zero-add m) ∙ ap (λ k. f (m + k)) (sym (zero-add j))))

-- The bytes of offsets of m slots, behind which those of n slots go on.
record GoOn (w : OffsetWidth) (m n : ℕ) (before after starts : List ℕ) : Type 0 where
  front : (j : ℕ) → j < m + 1 → number_at (offset_type w) after j ≡ number_at (offset_type w) before j
  counted : (j : ℕ) → j < n → is_negative (number_at (offset_type w) after (m + 1 + j)) ≡ false
  back : (j : ℕ) → j < n + 1 → start_at w after (m + j) ≡ start_of starts j
  size : length after ≡ (m + n + 1) * size_of w

go_on : (w : OffsetWidth) (m n : ℕ) (before bytes starts : List ℕ) → length before ≡ (m + 1) * size_of w → AreBytesOf w bytes starts → length starts ≡ n + 1
    → start_at w before m ≡ start_of starts 0 → GoOn w m n before (before ++ drop (size_of w) bytes) starts
go_on w m n before bytes starts long is count seam =
    let s = size_of w in
    let t = offset_type w in
    let rest = drop s bytes in
    let after = before ++ rest in
    let sized : length bytes ≡ (n + 1) * s = is.size ∙ ap (λ k. k * s) count in
    let within : s ≤ length bytes = omega (arith, sized) in
    let first : 1 * s ≡ length (take s bytes) = omega (arith, length-take-le s bytes within) in
    let front : (j : ℕ) → j < m + 1 → number_at t after j ≡ number_at t before j =
    λ j below. number_at-append-front t before rest j (omega (arith, row_fits j s (m + 1) s below (omega arith), long)) in
    let past : (j : ℕ) → number_at t after (m + 1 + j) ≡ number_at t bytes (1 + j) =
    λ j.
    number_at-append-past t before rest (m + 1) j (sym long)
    ∙ sym (number_at-append-past t (take s bytes) rest 1 j first)
    ∙ ap (λ b. number_at t b (1 + j)) (take-append-drop s bytes) in
    let behind : (j : ℕ) → j < n → start_at w after (m + 1 + j) ≡ start_of starts (1 + j) = λ j below. ap natural (past j) ∙ is.starts (1 + j) (omega (arith, below, count)) in
    let back : (j : ℕ) → j < n + 1 → start_at w after (m + j) ≡ start_of starts j =
    λ j below.
    each_of_both (λ k. start_at w after (m + k) ≡ start_of starts k) 1 n
    (λ k none.
    let zero_is : k ≡ 0 = omega (arith, none) in
    ap (λ i. start_at w after (m + i)) zero_is ∙ ap (start_at w after) (add-zero m) ∙ ap natural (front m (omega arith)) ∙ seam ∙ ap (start_of starts) (sym zero_is))
    (λ k under.
    let same : m + (1 + k) ≡ m + 1 + k = omega arith in
    ap (start_at w after) same ∙ behind k under) j (omega (arith, below)) in
    record {
      front = front;
      counted = λ j below. ap is_negative (past j) ∙ is.counted (1 + j) (omega (arith, below, count));
      back = back;
      size = omega (arith, long, sized, length-append before rest, length-drop s bytes);
    }

-- The slots after so many valid ones more.
pub record Joined (w : OffsetWidth) (valid : List Bool) (offsets : List ℕ) (most : ℕ) (old more : List (Option ℕ)) : Type 0 where
  pub fresh_still : AreFresh w valid offsets most
  pub all_slots : lengths_where w valid offsets ≡ old ++ more

fresh-joined : (w : OffsetWidth) (valid : List Bool) (n most : ℕ) (before bytes starts : List ℕ) → AreFresh w valid before most → AreBytesOf w bytes starts → AreOffsets n starts (start_of starts n)
    → start_of starts 0 ≡ most → start_of starts n ≤ most_of w → AreFresh w (valid ++ replicate n true) (before ++ drop (size_of w) bytes) (start_of starts n)
fresh-joined w valid n most before bytes starts is bytes_are are seam short =
    let m = length valid in
    let flags = valid ++ replicate n true in
    let after = before ++ drop (size_of w) bytes in
    let count : length flags ≡ m + n = length-append valid (replicate n true) ∙ ap (λ k. m + k) (length-replicate n true) in
    let on = go_on w m n before bytes starts is.size bytes_are are.size (is.ends ∙ sym seam) in
    let next : (j : ℕ) → m + j + 1 ≡ m + (j + 1) = λ j. omega arith in
    record {
      bounds =
          subst (λ k. AreOffsetBytes w k after (start_of starts n)) (sym count)
          (record {
            size = omega (arith, on.size);
            counted =
                λ j below.
                each_of_both (λ k. is_negative (number_at (offset_type w) after k) ≡ false) (m + 1) n
                (λ k under. ap is_negative (on.front k under) ∙ is.bounds.counted k (omega (arith, under))) on.counted j (omega (arith, below));
            rising =
                each_of_both (λ k. start_at w after k ≤ start_at w after (k + 1)) m n
                (λ k under.
                let here = ap natural (on.front k (omega (arith, under))) in
                let there = ap natural (on.front (k + 1) (omega (arith, under))) in
                let rise = is.bounds.rising k under in
                omega (arith, here, there, rise))
                (λ k under.
                let here = on.back k (omega (arith, under)) in
                let there = ap (start_at w after) (next k) ∙ on.back (k + 1) (omega (arith, under)) in
                let rise = are.rising k under in
                omega (arith, here, there, rise));
            last =
                let end = on.back n (omega arith) in
                omega (arith, end);
          });
      first = ap natural (on.front 0 (omega arith)) ∙ is.first;
      ends = ap (start_at w after) count ∙ on.back n (omega arith);
      size = on.size ∙ ap (λ k. (k + 1) * size_of w) (sym count);
      short = short;
      empty =
          λ j below.
          each_of_both (λ k. get_or flags k false ≡ false → length_at w after k ≡ 0) m n
          (λ k under none.
          let here = ap natural (on.front k (omega (arith, under))) in
          let there = ap natural (on.front (k + 1) (omega (arith, under))) in
          let long = is.empty k under (sym (get_or_append_left valid (replicate n true) false k under) ∙ none) in
          omega (arith, here, there, long))
          (λ k under none. absurd (true≢false (sym (get_or-append-add valid (replicate n true) k false ∙ get_or-replicate n k true false under) ∙ none)))
          j (omega (arith, below, count));
    }

lengths-joined : (w : OffsetWidth) (valid : List Bool) (n most : ℕ) (before bytes starts : List ℕ) → AreFresh w valid before most → AreBytesOf w bytes starts → AreOffsets n starts (start_of starts n)
    → start_of starts 0 ≡ most → lengths_where w (valid ++ replicate n true) (before ++ drop (size_of w) bytes) ≡ lengths_where w valid before ++ lengths_by starts n
unfolding lengths_where
lengths-joined w valid n most before bytes starts is bytes_are are seam =
    let m = length valid in
    let flags = valid ++ replicate n true in
    let after = before ++ drop (size_of w) bytes in
    let count : length flags ≡ m + n = length-append valid (replicate n true) ∙ ap (λ k. m + k) (length-replicate n true) in
    let on = go_on w m n before bytes starts is.size bytes_are are.size (is.ends ∙ sym seam) in
    let at = slot_length (λ j. get_or flags j false) (start_at w after) in
    let at' = slot_length (λ j. get_or valid j false) (start_at w before) in
    let next : (j : ℕ) → m + j + 1 ≡ m + (j + 1) = λ j. omega arith in
    let front : (j : ℕ) → j < m → at j ≡ at' j =
    λ j under.
    ap (λ v. cond v (Some (length_at w after j)) None) (get_or_append_left valid (replicate n true) false j under)
    ∙ ap (λ e. cond (get_or valid j false) (Some (e - start_at w after j)) None) (ap natural (on.front (j + 1) (omega (arith, under))))
    ∙ ap (λ s. cond (get_or valid j false) (Some (start_at w before (j + 1) - s)) None) (ap natural (on.front j (omega (arith, under)))) in
    let back : (j : ℕ) → j < n → at (m + j) ≡ Some (length_of starts j) =
    λ j under.
    ap (λ v. cond v (Some (length_at w after (m + j))) None) (get_or-append-add valid (replicate n true) j false ∙ get_or-replicate n j true false under)
    ∙ ap (λ e. Some (e - start_at w after (m + j))) (ap (start_at w after) (next j) ∙ on.back (j + 1) (omega (arith, under)))
    ∙ ap (λ s. Some (start_of starts (j + 1) - s)) (on.back j (omega (arith, under))) in
    ap (λ k. map at (range_with_len 0 k)) count
    ∙ map-range-joined at m n
    ∙ ap (λ xs. xs ++ map (λ j. at (m + j)) (range_with_len 0 n)) (map-range-below at at' 0 m (λ j under. ap at (zero-add j) ∙ front j under ∙ ap at' (sym (zero-add j))))
    ∙ ap (λ xs. map at' (range_with_len 0 m) ++ xs)
    (map-range-below (λ j. at (m + j)) (λ j. Some (length_of starts j)) 0 n
    (λ j under. ap (λ k. at (m + k)) (zero-add j) ∙ back j under ∙ ap (λ k. Some (length_of starts k)) (sym (zero-add j))))

pub joined : (w : OffsetWidth) (valid flags : List Bool) (n most : ℕ) (before after bytes starts : List ℕ) (old : List (Option ℕ)) → lengths_where w valid before ≡ old → AreFresh w valid before most
    → AreBytesOf w bytes starts → AreOffsets n starts (start_of starts n) → start_of starts 0 ≡ total old → total (old ++ lengths_by starts n) ≤ most_of w → after ≡ before ++ take (length bytes - size_of w) (drop (size_of w) bytes)
    → flags ≡ valid ++ replicate n true → Joined w flags after (start_of starts n) old (lengths_by starts n)
joined w valid flags n most before after bytes starts old view_is is bytes_are are first fits added flags_are =
    let rest = drop (size_of w) bytes in
    let after_is : after ≡ before ++ rest = added ∙ ap (λ xs. before ++ xs) (take_all (length bytes - size_of w) rest (omega (arith, length-drop (size_of w) bytes))) in
    let seam : start_of starts 0 ≡ most = first ∙ ap total (sym view_is) ∙ total-fresh w valid before most is in
    let short : start_of starts n ≤ most_of w = omega (arith, total-lengths_by n starts (start_of starts n) are n (omega arith), fits, first, total-joined old (lengths_by starts n)) in
    record {
      fresh_still =
          subst (λ o. AreFresh w flags o (start_of starts n)) (sym after_is)
          (subst (λ v. AreFresh w v (before ++ drop (size_of w) bytes) (start_of starts n)) (sym flags_are) (fresh-joined w valid n most before bytes starts is bytes_are are seam short));
      all_slots =
          ap (λ v. lengths_where w v after) flags_are
          ∙ ap (lengths_where w (valid ++ replicate n true)) after_is
          ∙ lengths-joined w valid n most before bytes starts is bytes_are are seam
          ∙ ap (λ ls. ls ++ lengths_by starts n) view_is;
    }

-- ---- the texts of slots, none of which is null

-- All bytes that lie in the slots.
abbrev pub bytes_in : List ℕ → List ℕ → ℕ → List ℕ
bytes_in offsets bytes n = slice bytes (start_of offsets 0) (start_of offsets n - start_of offsets 0)

pub record TextsBy (offsets bytes : List ℕ) (n : ℕ) : Type 0 where
  pub texts : AreTextsOf (lengths_by offsets n) (bytes_in offsets bytes n)
  pub items : cut_texts (lengths_by offsets n) (bytes_in offsets bytes n) ≡ text_items offsets bytes None n

pub texts_by : (n : ℕ) (offsets bytes : List ℕ) → AreOffsets n offsets (length bytes) → ((j : ℕ) → j < n → IsUtf8 (of_slot offsets bytes j)) → TextsBy offsets bytes n
texts_by n offsets bytes are utf8 =
    let slots : List (Option ℕ) = lengths_by offsets n in
    let first = start_of offsets 0 in
    let last = start_of offsets n in
    let first_le = ends_within n offsets last (record { size = are.size; rising = are.rising; last = omega arith }) 0 (omega arith) in
    let whole = total-lengths_by n offsets (length bytes) are n (omega arith) in
    let size : length (drop first bytes) ≡ length bytes - first = length-drop first bytes in
    let within : last - first ≤ length (drop first bytes) = omega (arith, size, are.last, first_le) in
    let count : total slots ≡ last - first = omega (arith, whole, first_le) in
    let at : ℕ → Item = λ j. text (of_slot offsets bytes j) in
    let items : cut_texts slots (bytes_in offsets bytes n) ≡ map at (range_with_len 0 n) =
    texts_cut slots (bytes_in offsets bytes n)
    ∙ cut-taken text null slots (drop first bytes) (last - first) within count
    ∙ cut-from text null all_valid (start_of offsets) n bytes (rises_all n offsets (length bytes) are n (omega arith)) n 0 (zero-add n) in
    let each : All IsText (map at (range_with_len 0 n)) =
    λ k d below.
    subst IsText (sym (get_or-map-range_with_len at 0 n k k d (omega (arith, below, length-map-range_with_len at 0 n)) (zero-add k)))
    (utf8 k (omega (arith, below, length-map-range_with_len at 0 n))) in
    record {
      texts = record { whole = count ∙ sym (length-take-le (last - first) (drop first bytes) within); utf8 = subst (All IsText) (sym items) each };
      items = items;
    }

-- ---- the column with typed texts at its end, none of which is null

utf8_in : (t : Texts) → t.validity ≡ None → (j : ℕ) → j < t.slots → IsUtf8 (of_slot t.offsets t.bytes.now j)
utf8_in t valid j below = IsUtf8-from_is_utf8 (of_slot t.offsets t.bytes.now j) (t.utf8 j below (ap (λ v. valid_in v j) valid))

pub texts_after : (ls slots : List (Option ℕ)) (bytes all : List ℕ) (t : Texts) (old : List Item) → t.validity ≡ None → cut_texts ls bytes ≡ old → AreTextsOf ls bytes
    → all ≡ bytes ++ bytes_in t.offsets t.bytes.now t.slots → slots ≡ ls ++ lengths_by t.offsets t.slots → TextsGrown slots all old (items_of_texts t)
texts_after ls slots bytes all t old valid view_is texts all_are slots_are =
    let more = texts_by t.slots t.offsets t.bytes.now t.bounds (utf8_in t valid) in
    let items : List Item = items_of_texts t in
    let same : cut_texts (lengths_by t.offsets t.slots) (bytes_in t.offsets t.bytes.now t.slots) ≡ items = more.items ∙ ap (λ v. text_items t.offsets t.bytes.now v t.slots) (sym valid) in
    subst (λ b. TextsGrown slots b old items) (sym all_are)
    (subst (λ s. TextsGrown s (bytes ++ bytes_in t.offsets t.bytes.now t.slots) old items) (sym slots_are)
    (texts_grow ls (lengths_by t.offsets t.slots) bytes (bytes_in t.offsets t.bytes.now t.slots) old items view_is texts same more.texts))

-- how many bytes it has then
pub bytes_after : (ls : List (Option ℕ)) (bytes : List ℕ) (t : Texts) (old : List Item) → t.validity ≡ None → cut_texts ls bytes ≡ old → AreTextsOf ls bytes
    → text_bytes (old ++ items_of_texts t) ≡ length bytes + length (bytes_in t.offsets t.bytes.now t.slots)
bytes_after ls bytes t old valid view_is texts =
    let more = bytes_in t.offsets t.bytes.now t.slots in
    bytes_grown (ls ++ lengths_by t.offsets t.slots) (bytes ++ more) old (items_of_texts t) (texts_after ls (ls ++ lengths_by t.offsets t.slots) bytes (bytes ++ more) t old valid view_is texts refl refl)
    ∙ length-append bytes more

pub total_after : (ls : List (Option ℕ)) (bytes : List ℕ) (t : Texts) (old : List Item) → t.validity ≡ None → cut_texts ls bytes ≡ old → AreTextsOf ls bytes
    → total (ls ++ lengths_by t.offsets t.slots) ≡ length bytes + length (bytes_in t.offsets t.bytes.now t.slots)
total_after ls bytes t old valid view_is texts =
    let more = bytes_in t.offsets t.bytes.now t.slots in
    (texts_after ls (ls ++ lengths_by t.offsets t.slots) bytes (bytes ++ more) t old valid view_is texts refl refl).texts_still.whole
    ∙ length-append bytes more

-- ---- one by one

item_in : (valid : Bool) (bytes : List ℕ) → item_of_text (cond valid (Some bytes) None) ≡ cond valid (text bytes) null
item_in true bytes = refl
item_in false bytes = refl

pub length-text_items : (offsets bytes : List ℕ) (validity : Option (List Bool)) (i : ℕ) → length (text_items offsets bytes validity i) ≡ i
length-text_items offsets bytes validity i = length-map-range_with_len (λ j. cond (valid_in validity j) (text (of_slot offsets bytes j)) null) 0 i

-- one text more
pub items_more : (offsets bytes : List ℕ) (validity : Option (List Bool)) (i : ℕ) (old now after : List Item) (o : Option (List ℕ)) → now ≡ old ++ text_items offsets bytes validity i
    → o ≡ text_in offsets bytes validity i → after ≡ now ++ item_of_text o ∷ [] → after ≡ old ++ text_items offsets bytes validity (i + 1)
items_more offsets bytes validity i old now after o is text_is pushed =
    let at : ℕ → Item = λ j. cond (valid_in validity j) (text (of_slot offsets bytes j)) null in
    pushed
    ∙ ap (λ xs. xs ++ item_of_text o ∷ []) is
    ∙ ap (λ u. (old ++ text_items offsets bytes validity i) ++ item_of_text u ∷ []) text_is
    ∙ ap (λ x. (old ++ text_items offsets bytes validity i) ++ x ∷ []) (item_in (valid_in validity i) (of_slot offsets bytes i))
    ∙ append_assoc old (text_items offsets bytes validity i) (at i ∷ [])
    ∙ ap (λ xs. old ++ xs) (sym (map-range_with_len_more at 0 i i (zero-add i)))

-- the first of the slots have no more bytes than all
pub front_full : (w : OffsetWidth) (offsets bytes : List ℕ) (validity : Option (List Bool)) (n i : ℕ) (old : List Item) → i ≤ n
    → is_full w (text_bytes (old ++ text_items offsets bytes validity i)) ≡ true → is_full w (text_bytes (old ++ text_items offsets bytes validity n)) ≡ true
front_full w offsets bytes validity n i old within full =
    let at : ℕ → Item = λ j. cond (valid_in validity j) (text (of_slot offsets bytes j)) null in
    let front : take i (map at (range_with_len 0 n)) ≡ map at (range_with_len 0 i) = take-map-range_with_len at 0 n i within in
    full-grows w (text_bytes (old ++ map at (range_with_len 0 i))) (text_bytes (old ++ map at (range_with_len 0 n)))
    (omega (
      arith,
      sum_by-append text_length old (map at (range_with_len 0 i)),
      sum_by-append text_length old (map at (range_with_len 0 n)),
      ap text_bytes front,
      sum_by-take-le text_length (map at (range_with_len 0 n)) i,
    )) full

-- so that where one text more is too much, all are
pub full_of_all : {A : Type 0} (r : Result A BuildFault) (e : BuildFault) (one all : Bool) → IsErrAnd r (λ x. x ≡ e) → IsBuildFault one e → (one ≡ true → all ≡ true) → IfErr r (IsFull all)
full_of_all (Ok a) e one all same fault grows = tt
full_of_all (Err reported) e one all same fault grows = elim fault [ inl h ↦ inl (same ∙ h.0, grows h.1) | inr h ↦ inr (same ∙ h.0) ]

-- ---- texts of a slice, one by one

pub full_taken : {A : Type 0} (f : A → Item) (xs : List A) (i : ℕ) (d : A) (w : OffsetWidth) (now : List Item) → i < length xs → now ≡ map f (take i xs)
    → is_full w (text_bytes (now ++ f (get_or xs i d) ∷ [])) ≡ true → is_full w (text_bytes (map f xs)) ≡ true
full_taken f xs i d w now below is full =
    let front : now ++ f (get_or xs i d) ∷ [] ≡ take (i + 1) (map f xs) =
    ap (λ ys. ys ++ f (get_or xs i d) ∷ []) is
    ∙ sym (map-append f (take i xs) (get_or xs i d ∷ []))
    ∙ ap (map f) (sym (take_more xs i d below))
    ∙ sym (take-map f (i + 1) xs) in
    full-grows w (text_bytes (now ++ f (get_or xs i d) ∷ [])) (text_bytes (map f xs)) (omega (arith, ap text_bytes front, sum_by-take-le text_length (map f xs) (i + 1))) full
