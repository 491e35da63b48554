-- Columns cut by lengths, and by offsets.
use Rattle.std.proofs.Common.{◌≡◌, ◌∙◌, ℕ, zero, suc, add-zero, append-nil, ◌+◌, ◌-◌, ◌<◌, ◌≤◌, List, [], ◌∷◌, ◌++◌, map, Bool, true, false, length, take, drop, cond, Option, Some, None, unwrap_or, IsUtf8, ap, sym, subst, refl, arith, length-append, length-drop}
use Rattle.std.specs.List.{range_with_len, All}
use Rattle.std.proofs.lemmas.List.{drop-append-le, take-append-le, take-append-drop, drop-drop, nil_from_length, length-take-le}
use Rattle.std.proofs.lemmas.Bool.{ltb-true, lt-ltb}
use Rattle.std.proofs.lemmas.List.Elements.{All-append}
use Rattle.std.proofs.lemmas.List.Sums.{sum_by-append, sum_by-cons, sum_by_push}
use Rattle.std.proofs.Math.Seq.{take-length}
use Rattle.types.specs.declared.offset_width.OffsetWidth.{OffsetWidth}
use Rattle.types.specs.declared.offset_width.OffsetWidth.TheVariants.{Narrow, Wide}
use Rattle.layout.specs.Item.{Item, null, text, list, list_of}
use Rattle.arrays.specs.Prelude.{AreTextsOf, IsText, cut, cut_texts, is_past, text_bytes, text_length, total}
use Rattle.types.specs.Prelude.{is_full, most_slots}
use Rattle.colbits.specs.Slice.{slice}

-- ---- how long slots are together

pub total-cons : (l : Option ℕ) (ls : List (Option ℕ)) → total (l ∷ ls) ≡ unwrap_or l 0 + total ls
total-cons l ls = sum_by-cons (λ (o : Option ℕ). unwrap_or o 0) l ls

pub total-push : (ls : List (Option ℕ)) (l : Option ℕ) → total (ls ++ l ∷ []) ≡ total ls + unwrap_or l 0
total-push ls l = sum_by_push (λ (o : Option ℕ). unwrap_or o 0) ls l

-- ---- slots of any values

-- Slots of these lengths, cut one after the other from the values; x where there is no length.
abbrev pub cut_by : {A X : Type 0} → (List A → X) → X → List (Option ℕ) → List A → List X
cut_by wrap x [] values = []
cut_by wrap x (None ∷ ls) values = x ∷ cut_by wrap x ls values
cut_by wrap x (Some n ∷ ls) values = wrap (take n values) ∷ cut_by wrap x ls (drop n values)

pub texts_cut : (ls : List (Option ℕ)) (bytes : List ℕ) → cut_texts ls bytes ≡ cut_by text null ls bytes
texts_cut [] bytes = refl
texts_cut (None ∷ ls) bytes = ap (λ xs. null ∷ xs) (texts_cut ls bytes)
texts_cut (Some n ∷ ls) bytes = ap (λ xs. text (take n bytes) ∷ xs) (texts_cut ls (drop n bytes))

pub lists_cut : (ls : List (Option ℕ)) (items : List Item) → cut ls items ≡ cut_by (λ xs. list (list_of xs)) null ls items
lists_cut [] items = refl
lists_cut (None ∷ ls) items = ap (λ xs. null ∷ xs) (lists_cut ls items)
lists_cut (Some n ∷ ls) items = ap (λ xs. list (list_of (take n items)) ∷ xs) (lists_cut ls (drop n items))

-- ---- cut by where slots start

-- How long slot j is, none where it isn't valid.
abbrev pub slot_length : (ℕ → Bool) → (ℕ → ℕ) → ℕ → Option ℕ
slot_length valid start j = cond (valid j) (Some (start (j + 1) - start j)) None

-- Starts that rise, by which a slot that isn't valid is empty.
pub record Rises (valid : ℕ → Bool) (n : ℕ) (start : ℕ → ℕ) : Type 0 where
  pub rising : (j : ℕ) → j < n → start j ≤ start (j + 1)
  pub empty : (j : ℕ) → j < n → valid j ≡ false → start (j + 1) - start j ≡ 0

slot_total : (b : Bool) (l start end : ℕ) → l ≡ end - start → start ≤ end → (b ≡ false → l ≡ 0) → unwrap_or (cond b (Some l) None) 0 + start ≡ end
slot_total true l start end is le empty = omega arith
slot_total false l start end is le empty = let none = empty refl in omega arith

pub total-from : (valid : ℕ → Bool) (start : ℕ → ℕ) (n : ℕ) → Rises valid n start → (d a : ℕ) → a + d ≡ n
    → total (map (slot_length valid start) (range_with_len a d)) + start a ≡ start n
total-from valid start n rises zero a e =
    let same : start a ≡ start n = ap start (omega arith) in
    omega (arith, same)
total-from valid start n rises (suc d) a e =
    let here = slot_total (valid a) (start (a + 1) - start a) (start a) (start (a + 1)) refl (rises.rising a (omega arith)) (rises.empty a (omega arith)) in
    let there = total-from valid start n rises d (a + 1) (omega arith) in
    let both = total-cons (slot_length valid start a) (map (slot_length valid start) (range_with_len (a + 1) d)) in
    omega (arith, here, there, both)

slot_cut : {A X : Type 0} (wrap : List A → X) (x : X) (b : Bool) (l start end : ℕ) (ls : List (Option ℕ)) (values : List A) (out : List X) → l ≡ end - start → start ≤ end
    → (b ≡ false → l ≡ 0) → cut_by wrap x ls (drop end values) ≡ out
    → cut_by wrap x (cond b (Some l) None ∷ ls) (drop start values) ≡ cond b (wrap (take l (drop start values))) x ∷ out
slot_cut wrap x true l start end ls values out is le empty rest =
    ap (λ xs. wrap (take l (drop start values)) ∷ xs)
    (ap (cut_by wrap x ls) (drop-drop l start values) ∙ ap (λ s. cut_by wrap x ls (drop s values)) (omega arith) ∙ rest)
slot_cut wrap x false l start end ls values out is le empty rest =
    let none = empty refl in
    ap (λ xs. x ∷ xs) (ap (λ s. cut_by wrap x ls (drop s values)) (omega arith) ∙ rest)

pub cut-from : {A X : Type 0} (wrap : List A → X) (x : X) (valid : ℕ → Bool) (start : ℕ → ℕ) (n : ℕ) (values : List A) → Rises valid n start → (d a : ℕ) → a + d ≡ n
    → cut_by wrap x (map (slot_length valid start) (range_with_len a d)) (drop (start a) values)
    ≡ map (λ j. cond (valid j) (wrap (slice values (start j) (start (j + 1) - start j))) x) (range_with_len a d)
cut-from wrap x valid start n values rises zero a e = refl
cut-from wrap x valid start n values rises (suc d) a e =
    slot_cut wrap x (valid a) (start (a + 1) - start a) (start a) (start (a + 1)) (map (slot_length valid start) (range_with_len (a + 1) d)) values
    (map (λ j. cond (valid j) (wrap (slice values (start j) (start (j + 1) - start j))) x) (range_with_len (a + 1) d))
    refl (rises.rising a (omega arith)) (rises.empty a (omega arith)) (cut-from wrap x valid start n values rises d (a + 1) (omega arith))

-- ---- more slots

pub length-cut_by : {A X : Type 0} (wrap : List A → X) (x : X) (ls : List (Option ℕ)) (values : List A) → length (cut_by wrap x ls values) ≡ length ls
length-cut_by wrap x [] values = refl
length-cut_by wrap x (None ∷ ls) values = ap suc (length-cut_by wrap x ls values)
length-cut_by wrap x (Some n ∷ ls) values = ap suc (length-cut_by wrap x ls (drop n values))

pub cut-push-none : {A X : Type 0} (wrap : List A → X) (x : X) (ls : List (Option ℕ)) (values : List A) → cut_by wrap x (ls ++ None ∷ []) values ≡ cut_by wrap x ls values ++ x ∷ []
cut-push-none wrap x [] values = refl
cut-push-none wrap x (None ∷ ls) values = ap (λ xs. x ∷ xs) (cut-push-none wrap x ls values)
cut-push-none wrap x (Some n ∷ ls) values = ap (λ xs. wrap (take n values) ∷ xs) (cut-push-none wrap x ls (drop n values))

pub cut-joined : {A X : Type 0} (wrap : List A → X) (x : X) (ls ms : List (Option ℕ)) (values more : List A) → total ls ≡ length values
    → cut_by wrap x (ls ++ ms) (values ++ more) ≡ cut_by wrap x ls values ++ cut_by wrap x ms more
cut-joined wrap x [] ms values more h = ap (λ v. cut_by wrap x ms (v ++ more)) (nil_from_length values (sym h))
cut-joined wrap x (None ∷ ls) ms values more h =
    ap (λ xs. x ∷ xs) (cut-joined wrap x ls ms values more (omega (arith, total-cons None ls)))
cut-joined wrap x (Some n ∷ ls) ms values more h =
    let all = total-cons (Some n) ls in
    let within : n ≤ length values = omega (arith, all) in
    ap (λ t. wrap t ∷ cut_by wrap x (ls ++ ms) (drop n (values ++ more))) (take-append-le n values more within)
    ∙ ap (λ xs. wrap (take n values) ∷ xs)
    (ap (cut_by wrap x (ls ++ ms)) (drop-append-le n values more within)
    ∙ cut-joined wrap x ls ms (drop n values) more (omega (arith, all, length-drop n values)))

-- values behind those that the slots hold are in none of them
pub cut-taken : {A X : Type 0} (wrap : List A → X) (x : X) (ls : List (Option ℕ)) (values : List A) (n : ℕ) → n ≤ length values → total ls ≡ n
    → cut_by wrap x ls (take n values) ≡ cut_by wrap x ls values
cut-taken wrap x ls values n within whole =
    sym (append-nil (cut_by wrap x ls (take n values)))
    ∙ sym (cut-joined wrap x ls [] (take n values) (drop n values) (whole ∙ sym (length-take-le n values within)))
    ∙ ap (λ ks. cut_by wrap x ks (take n values ++ drop n values)) (append-nil ls)
    ∙ ap (cut_by wrap x ls) (take-append-drop n values)

pub total-joined : (ls ms : List (Option ℕ)) → total (ls ++ ms) ≡ total ls + total ms
total-joined ls ms = sum_by-append (λ (o : Option ℕ). unwrap_or o 0) ls ms

-- how many bytes texts have
pub text_bytes-cut : (ls : List (Option ℕ)) (bytes : List ℕ) → total ls ≤ length bytes → text_bytes (cut_by text null ls bytes) ≡ total ls
text_bytes-cut [] bytes h = refl
text_bytes-cut (None ∷ ls) bytes h =
    let all = total-cons None ls in
    let rest = text_bytes-cut ls bytes (omega (arith, all)) in
    omega (arith, all, rest, sum_by-cons text_length null (cut_by text null ls bytes))
text_bytes-cut (Some n ∷ ls) bytes h =
    let all = total-cons (Some n) ls in
    let rest = text_bytes-cut ls (drop n bytes) (omega (arith, all, length-drop n bytes)) in
    let here = length-take-le n bytes (omega (arith, all)) in
    omega (arith, all, rest, here, sum_by-cons text_length (text (take n bytes)) (cut_by text null ls (drop n bytes)))

-- ---- texts in the making

-- The texts after more slots.
pub record TextsGrown (ls : List (Option ℕ)) (bytes : List ℕ) (old more : List Item) : Type 0 where
  pub texts_still : AreTextsOf ls bytes
  pub grown : cut_texts ls bytes ≡ old ++ more

one_is : (x : Item) → IsText x → All IsText (x ∷ [])
one_is x h zero d below = h
one_is x h (suc k) d below = absurd (omega arith)

grown_by : (ls : List (Option ℕ)) (bytes : List ℕ) (old more : List Item) → total ls ≡ length bytes → cut_texts ls bytes ≡ old ++ more → All IsText old → All IsText more
    → TextsGrown ls bytes old more
grown_by ls bytes old more whole all were are = record {
  texts_still = record { whole = whole; utf8 = subst (All IsText) (sym all) (All-append IsText old more were are) };
  grown = all;
}

pub texts_grow : (ls ms : List (Option ℕ)) (bytes behind : List ℕ) (old more : List Item) → cut_texts ls bytes ≡ old → AreTextsOf ls bytes → cut_texts ms behind ≡ more → AreTextsOf ms behind
    → TextsGrown (ls ++ ms) (bytes ++ behind) old more
texts_grow ls ms bytes behind old more old_is texts more_is others =
    grown_by (ls ++ ms) (bytes ++ behind) old more
    (omega (arith, total-joined ls ms, texts.whole, others.whole, length-append bytes behind))
    (texts_cut (ls ++ ms) (bytes ++ behind)
    ∙ cut-joined text null ls ms bytes behind texts.whole
    ∙ ap (λ xs. xs ++ cut_by text null ms behind) (sym (texts_cut ls bytes) ∙ old_is)
    ∙ ap (λ xs. old ++ xs) (sym (texts_cut ms behind) ∙ more_is))
    (subst (All IsText) old_is texts.utf8)
    (subst (All IsText) more_is others.utf8)

text_alone : (t : List ℕ) → IsUtf8 t → AreTextsOf (Some (length t) ∷ []) t
text_alone t is = record {
  whole = total-cons (Some (length t)) [] ∙ add-zero (length t);
  utf8 = subst (λ u. All IsText (text u ∷ [])) (sym (take-length t)) (one_is (text t) is);
}

text_grows : (ls : List (Option ℕ)) (bytes t : List ℕ) (old : List Item) → cut_texts ls bytes ≡ old → AreTextsOf ls bytes → IsUtf8 t
    → TextsGrown (ls ++ Some (length t) ∷ []) (bytes ++ t) old (text t ∷ [])
text_grows ls bytes t old view_is texts is =
    texts_grow ls (Some (length t) ∷ []) bytes t old (text t ∷ []) view_is texts (ap (λ u. text u ∷ []) (take-length t)) (text_alone t is)

pub text_more : (ls slots : List (Option ℕ)) (bytes all t : List ℕ) (old : List Item) → cut_texts ls bytes ≡ old → AreTextsOf ls bytes → IsUtf8 t → all ≡ bytes ++ t
    → slots ≡ ls ++ Some (length t) ∷ [] → TextsGrown slots all old (text t ∷ [])
text_more ls slots bytes all t old view_is texts is all_are slots_are =
    subst (λ b. TextsGrown slots b old (text t ∷ [])) (sym all_are)
    (subst (λ s. TextsGrown s (bytes ++ t) old (text t ∷ [])) (sym slots_are) (text_grows ls bytes t old view_is texts is))

pub null_more : (ls slots : List (Option ℕ)) (bytes : List ℕ) (old : List Item) → cut_texts ls bytes ≡ old → AreTextsOf ls bytes → slots ≡ ls ++ None ∷ []
    → TextsGrown slots bytes old (null ∷ [])
null_more ls slots bytes old view_is texts slots_are =
    subst (λ s. TextsGrown s bytes old (null ∷ [])) (sym slots_are)
    (grown_by (ls ++ None ∷ []) bytes old (null ∷ [])
    (omega (arith, total-push ls None, texts.whole))
    (texts_cut (ls ++ None ∷ []) bytes ∙ cut-push-none text null ls bytes ∙ ap (λ xs. xs ++ null ∷ []) (sym (texts_cut ls bytes) ∙ view_is))
    (subst (All IsText) view_is texts.utf8)
    (one_is null tt))

pub length-texts : (ls : List (Option ℕ)) (bytes : List ℕ) (old : List Item) → cut_texts ls bytes ≡ old → length ls ≡ length old
length-texts ls bytes old view_is = sym (length-cut_by text null ls bytes) ∙ ap length (sym (texts_cut ls bytes) ∙ view_is)

-- the slots of texts are as long as their bytes
pub bytes_with : (ls : List (Option ℕ)) (bytes : List ℕ) (old : List Item) (l : Option ℕ) (x : Item) → cut_texts ls bytes ≡ old → AreTextsOf ls bytes → text_length x ≡ unwrap_or l 0
    → total (ls ++ l ∷ []) ≡ text_bytes (old ++ x ∷ [])
bytes_with ls bytes old l x view_is texts same =
    let here : text_bytes old ≡ total ls = ap text_bytes (sym view_is ∙ texts_cut ls bytes) ∙ text_bytes-cut ls bytes (omega (arith, texts.whole)) in
    omega (arith, here, same, total-push ls l, sum_by_push text_length old x)

-- .. so that one slot more adds its length to the bytes
pub bytes_more : (ls : List (Option ℕ)) (bytes : List ℕ) (old : List Item) (l : Option ℕ) (x : Item) → cut_texts ls bytes ≡ old → AreTextsOf ls bytes → text_length x ≡ unwrap_or l 0
    → text_bytes (old ++ x ∷ []) ≡ length bytes + unwrap_or l 0
bytes_more ls bytes old l x view_is texts same =
    sym (bytes_with ls bytes old l x view_is texts same) ∙ total-push ls l ∙ ap (λ n. n + unwrap_or l 0) texts.whole

-- bytes of all texts, after more slots
pub bytes_grown : (ls : List (Option ℕ)) (bytes : List ℕ) (old more : List Item) → TextsGrown ls bytes old more → text_bytes (old ++ more) ≡ length bytes
bytes_grown ls bytes old more is =
    ap text_bytes (sym is.grown ∙ texts_cut ls bytes)
    ∙ text_bytes-cut ls bytes (omega (arith, is.texts_still.whole))
    ∙ is.texts_still.whole

-- ---- more is too much where less is

pub past-more : (m n : ℕ) → m ≤ n → is_past m ≡ true → is_past n ≡ true
past-more m n le past = lt-ltb most_slots n (omega (arith, le, ltb-true most_slots m past))

pub full-grows : (w : OffsetWidth) (m n : ℕ) → m ≤ n → is_full w m ≡ true → is_full w n ≡ true
full-grows Narrow m n le full = past-more m n le full
full-grows Wide m n le full = cc
