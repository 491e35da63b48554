-- Keys, each once, with keys more, and the group ids of rows.
use Rattle.std.proofs.Common.{◌≡◌, ◌∙◌, ℕ, zero, suc, ◌<◌, Bool, true, false, ◌||◌, cond, List, [], ◌∷◌, ◌++◌, length, map, Some, refl, sym, ap, subst, arith, append_assoc, true≢false}
use Rattle.std.specs.Prelude.{All, slice_get}
use Rattle.std.specs.List.{IsDistinct, list_any}
use Rattle.std.proofs.lemmas.List.{append-nil, map-append, length-map}
use Rattle.std.proofs.lemmas.List.Elements.{All-nil, All-cons, All-head, All-tail}
use Rattle.std.proofs.lemmas.List.Folds.{list_any-append}
use Rattle.std.proofs.lemmas.Map.Keys.{IsDistinct-push}
use Rattle.std.proofs.lemmas.Option.{slice_get_within}
use Rattle.indexmap.specs.IndexSet.{insert_key}
use Rattle.arrays.specs.Prelude.{Item}
use Rattle.keys.specs.Prelude.{AreIds, same_key, with_keys}
use Rattle.keys.proofs.SameLemmas.{either, same_key_equiv}

-- ---- keys

pub slice_get-append : {K : Type 0} (xs ys : List K) (n : ℕ) → n < length xs → slice_get (xs ++ ys) n ≡ slice_get xs n
slice_get-append [] ys n below = absurd (omega arith)
slice_get-append (x ∷ xs) ys zero below = refl
slice_get-append (x ∷ xs) ys (suc n) below = slice_get-append xs ys n (omega (arith, below))

first_false : (a b : Bool) → (a || b) ≡ false → a ≡ false
first_false false b h = refl
first_false true b h = absurd (true≢false h)

abbrev pub Keys : Type 0
Keys = List (List Item)

abbrev pub is_among : Keys → List Item → Bool
is_among keys k = list_any (same_key k) keys

pub inserted : (keys : Keys) (k : List Item) (b : Bool) → is_among keys k ≡ b → insert_key same_key keys k ≡ cond b keys (keys ++ k ∷ [])
inserted keys k b is = ap (λ b. cond b keys (keys ++ k ∷ [])) is

distinct-inserted : (keys : Keys) (k : List Item) → IsDistinct same_key keys → IsDistinct same_key (insert_key same_key keys k)
distinct-inserted keys k h =
    either (is_among keys k)
    (λ there. subst (IsDistinct same_key) (sym (inserted keys k true there)) h)
    (λ absent. subst (IsDistinct same_key) (sym (inserted keys k false absent)) (IsDistinct-push same_key_equiv keys k h absent))

pub distinct-more : (keys more : Keys) → IsDistinct same_key keys → IsDistinct same_key (with_keys keys more)
distinct-more keys [] h = h
distinct-more keys (k ∷ more) h = distinct-more (insert_key same_key keys k) more (distinct-inserted keys k h)

-- The keys that came: none of them was there.
pub record AreGrown (keys new : Keys) : Type 0 where
  pub extra : Keys
  pub is : new ≡ keys ++ extra
  pub fresh : All (λ k. is_among keys k ≡ false) extra

not_before : (keys extra : Keys) (k : List Item) → All (λ x. is_among (keys ++ k ∷ []) x ≡ false) extra → All (λ x. is_among keys x ≡ false) extra
not_before keys [] k h = All-nil (λ x. is_among keys x ≡ false)
not_before keys (x ∷ extra) k h =
    All-cons (λ x. is_among keys x ≡ false) x extra
    (first_false (is_among keys x) (is_among (k ∷ []) x)
    (sym (list_any-append (same_key x) keys (k ∷ [])) ∙ All-head (λ x. is_among (keys ++ k ∷ []) x ≡ false) x extra h))
    (not_before keys extra k (All-tail (λ x. is_among (keys ++ k ∷ []) x ≡ false) x extra h))

pub grown : (keys more : Keys) → AreGrown keys (with_keys keys more)
grown keys [] = record { extra = []; is = sym (append-nil keys); fresh = All-nil (λ k. is_among keys k ≡ false) }
grown keys (k ∷ more) =
    either (is_among keys k)
    (λ there. subst (λ (l : Keys). AreGrown keys (with_keys l more)) (sym (inserted keys k true there)) (grown keys more))
    (λ absent.
    let g : AreGrown (keys ++ k ∷ []) (with_keys (keys ++ k ∷ []) more) = grown (keys ++ k ∷ []) more in
    subst (λ (l : Keys). AreGrown keys (with_keys l more)) (sym (inserted keys k false absent))
    (begun keys k more g absent)) where
      begun : (keys : Keys) (k : List Item) (more : Keys) → AreGrown (keys ++ k ∷ []) (with_keys (keys ++ k ∷ []) more) → is_among keys k ≡ false
          → AreGrown keys (with_keys (keys ++ k ∷ []) more)
      begun keys k more g absent = record {
        extra = k ∷ g.extra;
        is = g.is ∙ append_assoc keys (k ∷ []) g.extra;
        fresh = All-cons (λ x. is_among keys x ≡ false) k g.extra absent (not_before keys g.extra k g.fresh);
      }

-- ---- ids of keys

ids-kept : (keys extra wanted : Keys) (ids : List ℕ) → AreIds keys wanted ids → AreIds (keys ++ extra) wanted ids
ids-kept keys extra [] [] h = refl
ids-kept keys extra [] (n ∷ ids) h = absurd cc
ids-kept keys extra (k ∷ wanted) [] h = absurd cc
ids-kept keys extra (k ∷ wanted) (n ∷ ids) h =
    let head : slice_get keys n ≡ Some k = cc in
    let tail : AreIds keys wanted ids = cc in
    let a = slice_get-append keys extra n (slice_get_within keys n k head) ∙ head in
    let b : AreIds (keys ++ extra) wanted ids = ids-kept keys extra wanted ids tail in
    cc (a, b)

pub ids-push : (keys new wanted : Keys) (k : List Item) (ids : List ℕ) (n : ℕ) → new ≡ insert_key same_key keys k → AreIds keys wanted ids
    → slice_get new n ≡ Some k → AreIds new (wanted ++ k ∷ []) (ids ++ n ∷ [])
ids-push keys new wanted k ids n is h at =
    map-append (slice_get new) ids (n ∷ []) ∙ ap (λ o. map (slice_get new) ids ++ o ∷ []) at
    ∙ ap (λ l. l ++ Some k ∷ []) (either (is_among keys k)
    (λ there. subst (λ (l : Keys). AreIds l wanted ids) (sym (is ∙ inserted keys k true there)) h)
    (λ absent. subst (λ (l : Keys). AreIds l wanted ids) (sym (is ∙ inserted keys k false absent)) (ids-kept keys (k ∷ []) wanted ids h)))
    ∙ sym (map-append (λ (x : List Item). Some x) wanted (k ∷ []))

pub length-ids : (keys wanted : Keys) (ids : List ℕ) → AreIds keys wanted ids → length ids ≡ length wanted
length-ids keys wanted ids h =
    sym (length-map ids (slice_get keys)) ∙ ap length h ∙ length-map wanted (λ (k : List Item). Some k)

pub ids-inside : (keys wanted : Keys) (ids : List ℕ) → AreIds keys wanted ids → All (λ n. n < length keys) ids
ids-inside keys wanted [] h = All-nil (λ n. n < length keys)
ids-inside keys [] (n ∷ ids) h = absurd cc
ids-inside keys (k ∷ wanted) (n ∷ ids) h =
    let head : slice_get keys n ≡ Some k = cc in
    let tail : AreIds keys wanted ids = cc in
    All-cons (λ n. n < length keys) n ids (slice_get_within keys n k head) (ids-inside keys wanted ids tail)
