-- Lists place by place.
use Rattle.std.proofs.Common.{◌≡◌, ◌∙◌, ℕ, ◌+◌, ◌<◌, ◌≤◌, eqb, Bool, List, [], ◌∷◌, length, map, get_or, ap, sym, refl, arith, true, false, ◌&&◌, ◌||◌, cond, ◌++◌, take, Some, subst, append_assoc, length-append}
use Rattle.std.specs.List.{IsDistinct, list_any}
use Rattle.std.proofs.lemmas.Bool.{eqb-false, eqb-true}
use Rattle.std.proofs.lemmas.List.{get_or-map, length-map, map-append, take_more, get_or_append_left}
use Rattle.std.proofs.lemmas.Map.Keys.{IsDistinct-from_apart, apart_from_distinct}
use Rattle.keys.proofs.SameLemmas.{either}
use mathlib.Core.Logic.{⊎_elim}
use Rattle.std.specs.Prelude.{All, IfOk, OnErr, OnOk, Result, Ok, Err, slice_get, slice_index_or, option_map, ◌⊎◌}
use Rattle.std.specs.Str.{bytes_eq}
use Rattle.std.proofs.lemmas.Cmp.{nat_list_eq_equiv}
use Rattle.std.proofs.lemmas.List.Elements.{All-head, All-tail, All-push, All-weaker, All-get_or}
use Rattle.std.proofs.lemmas.Option.{get_or_from_slice_get, slice_get-map, slice_get_within}
use mathlib.Core.List.{IsPrefix}
use Rattle.indexmap.specs.IndexSet.{insert_key}
use Rattle.arrays.specs.Prelude.{Item, Row, null, text}
use Rattle.keys.specs.declared.part.Part.{Part}
use Rattle.keys.specs.declared.part.Part.TheVariants as part
use Rattle.keys.specs.Prelude.{AreWithin, IsWithin, item_of_part, key_of, key_of_parts, keys_shown, same_item, same_key, same_part, same_parts}

-- Those of a list that are apart are so by what f shows of them.
pub distinct-map : {A B : Type 0} (f : A → B) (e : A → A → Bool) (g : B → B → Bool) → ((x y : A) → e x y ≡ g (f x) (f y)) → (xs : List A) → IsDistinct e xs → IsDistinct g (map f xs)
distinct-map f e g same [] h = IsDistinct-from_apart g [] (λ i j d ij below. absurd (omega arith))
distinct-map f e g same (x ∷ xs) h =
    IsDistinct-from_apart g (map f (x ∷ xs)) (λ i j d ij below.
    let inside : j < length (x ∷ xs) = omega (arith, length-map (x ∷ xs) f) in
    let outside : i < length (x ∷ xs) = omega (arith, inside) in
    let at_i = get_or-map f (x ∷ xs) i x d outside in
    let at_j = get_or-map f (x ∷ xs) j x d inside in
    ap (λ a. g a (get_or (map f (x ∷ xs)) j d)) at_i ∙ ap (g (f (get_or (x ∷ xs) i x))) at_j
    ∙ sym (same (get_or (x ∷ xs) i x) (get_or (x ∷ xs) j x)) ∙ apart_from_distinct e (x ∷ xs) i j x h ij inside)

-- ---- texts that become more

pub prefix-trans : (xs ys zs : List (List ℕ)) → IsPrefix xs ys → IsPrefix ys zs → IsPrefix xs zs
prefix-trans xs ys zs a b = (a.0 ++ b.0, sym (append_assoc xs a.0 b.0) ∙ ap (λ l. l ++ b.0) a.1 ∙ b.1)

prefix-length : (xs ys : List (List ℕ)) → IsPrefix xs ys → length xs ≤ length ys
prefix-length xs ys a = omega (arith, sym (ap length a.1) ∙ length-append xs a.0)

module _ (ts us : List (List ℕ)) (begins : IsPrefix ts us) where
  part-grown : (p : Part) → IsWithin (length ts) p → item_of_part us p ≡ item_of_part ts p
  part-grown part.Null h = refl
  part-grown (part.Int z) h = refl
  part-grown (part.Bool b) h = refl
  part-grown (part.Text n) h = ap text (ap (λ l. get_or l n []) (sym begins.1) ∙ get_or_append_left ts begins.0 [] n h)

  pub within-grown : (p : Part) → IsWithin (length ts) p → IsWithin (length us) p
  within-grown part.Null h = tt
  within-grown (part.Int z) h = tt
  within-grown (part.Bool b) h = tt
  within-grown (part.Text n) h = omega (arith, h, prefix-length ts us begins)

  key-grown : (ps : List Part) → All (IsWithin (length ts)) ps → key_of_parts us ps ≡ key_of_parts ts ps
  key-grown [] h = refl
  key-grown (p ∷ ps) h =
      let a = part-grown p (All-head (IsWithin (length ts)) p ps h) in
      let b : key_of_parts us ps ≡ key_of_parts ts ps = key-grown ps (All-tail (IsWithin (length ts)) p ps h) in
      cc (a, b)

  pub keys-grown : (ks : List (List Part)) → AreWithin (length ts) ks → keys_shown us ks ≡ keys_shown ts ks
  keys-grown [] h = refl
  keys-grown (k ∷ ks) h =
      let P : List Part → Type 0 = λ k. All (IsWithin (length ts)) k in
      let a = key-grown k (All-head P k ks h) in
      let b : keys_shown us ks ≡ keys_shown ts ks = keys-grown ks (All-tail P k ks h) in
      cc (a, b)

  pub are-grown : (ks : List (List Part)) → AreWithin (length ts) ks → AreWithin (length us) ks
  are-grown ks h =
      All-weaker (λ (k : List Part). All (IsWithin (length ts)) k) (λ (k : List Part). All (IsWithin (length us)) k)
      (λ k g. All-weaker (IsWithin (length ts)) (IsWithin (length us)) within-grown k g) ks h

  -- One part more of a row's key.
  pub key-push : (by : List ℕ) (i : ℕ) (row : Row) (ps new : List Part) (p : Part) → i < length by → key_of_parts ts ps ≡ key_of (take i by) row
      → All (IsWithin (length ts)) ps → item_of_part us p ≡ slice_index_or row (get_or by i 0) null → new ≡ ps ++ p ∷ []
      → key_of_parts us new ≡ key_of (take (i + 1) by) row
  key-push by i row ps new p below key within item is =
      ap (key_of_parts us) is ∙ map-append (item_of_part us) ps (p ∷ [])
      ∙ ap (λ l. l ++ item_of_part us p ∷ []) (key-grown ps within ∙ key)
      ∙ ap (λ x. key_of (take i by) row ++ x ∷ []) item
      ∙ sym (ap (λ l. key_of l row) (take_more by i 0 below) ∙ map-append (λ c. slice_index_or row c null) (take i by) (get_or by i 0 ∷ []))

  -- One part more, for one that names other texts.
  pub rename-push : (others : List (List ℕ)) (parts : List Part) (i : ℕ) (ps new : List Part) (p d : Part) → i < length parts
      → key_of_parts ts ps ≡ key_of_parts others (take i parts) → All (IsWithin (length ts)) ps → item_of_part us p ≡ item_of_part others (get_or parts i d)
      → new ≡ ps ++ p ∷ [] → key_of_parts us new ≡ key_of_parts others (take (i + 1) parts)
  rename-push others parts i ps new p d below key within item is =
      ap (key_of_parts us) is ∙ map-append (item_of_part us) ps (p ∷ [])
      ∙ ap (λ l. l ++ item_of_part us p ∷ []) (key-grown ps within ∙ key)
      ∙ ap (λ x. key_of_parts others (take i parts) ++ x ∷ []) item
      ∙ sym (ap (key_of_parts others) (take_more parts i d below) ∙ map-append (item_of_part others) (take i parts) (get_or parts i d ∷ []))

  pub within-push : (ps new : List Part) (p : Part) → All (IsWithin (length ts)) ps → IsWithin (length us) p → new ≡ ps ++ p ∷ [] → All (IsWithin (length us)) new
  within-push ps new p within here is =
      subst (All (IsWithin (length us))) (sym is) (All-push (IsWithin (length us)) ps p (All-weaker (IsWithin (length ts)) (IsWithin (length us)) within-grown ps within) here)

-- ---- keys in a set

-- The key at a place, as its parts.
module _ (ts : List (List ℕ)) (ks : List (List Part)) (n : ℕ) (ps : List Part) (at : slice_get ks n ≡ Some ps) where
  pub stored_there : (keys : List (List Item)) → keys_shown ts ks ≡ keys → slice_get keys n ≡ Some (key_of_parts ts ps)
  stored_there keys are = ap (λ l. slice_get l n) (sym are) ∙ slice_get-map (key_of_parts ts) ks n ∙ ap (option_map (key_of_parts ts)) at

  pub stored_key : (keys : List (List Item)) → keys_shown ts ks ≡ keys → key_of_parts ts ps ≡ slice_index_or keys n []
  stored_key keys are = sym (get_or_from_slice_get keys n (key_of_parts ts ps) [] (stored_there keys are))

  pub stored_present : AreWithin (length ts) ks → All (IsWithin (length ts)) ps
  stored_present all_within =
      subst (All (IsWithin (length ts))) (get_or_from_slice_get ks n ps ps at) (All-get_or (All (IsWithin (length ts))) ks n ps (slice_get_within ks n ps at) all_within)

-- The key of one column alone.
pub key_alone : (by : List ℕ) (row : Row) (x : Item) → length by ≡ 1 → x ≡ slice_index_or row (get_or by 0 0) null → x ∷ [] ≡ key_of by row
key_alone [] row x one is = absurd (omega (arith, one))
key_alone (c ∷ []) row x one is = ap (λ y. y ∷ []) is
key_alone (c ∷ d ∷ by) row x one is = absurd (omega (arith, one))

module _ (ts : List (List ℕ)) (once : IsDistinct bytes_eq ts) where
  texts_same : (m n : ℕ) → m < length ts → n < length ts → eqb m n ≡ bytes_eq (get_or ts m []) (get_or ts n [])
  texts_same m n below within =
      either (eqb m n)
      (λ yes. yes ∙ sym (ap (λ k. bytes_eq (get_or ts m []) (get_or ts k [])) (sym (eqb-true m n yes)) ∙ nat_list_eq_equiv.refl (get_or ts m [])))
      (λ no. no ∙ sym (⊎_elim
      (λ less. apart_from_distinct bytes_eq ts m n [] once less within)
      (λ more. nat_list_eq_equiv.symm (get_or ts m []) (get_or ts n []) ∙ apart_from_distinct bytes_eq ts n m [] once more below)
      (apart m n (eqb-false m n no)))) where
        apart : (m n : ℕ) → (m ≡ n → ⊥) → (m < n) ⊎ (n < m)
        apart m n off = grind (arith, off)

  part_same : (p q : Part) → IsWithin (length ts) p → IsWithin (length ts) q → same_part p q ≡ same_item (item_of_part ts p) (item_of_part ts q)
  part_same part.Null part.Null h g = refl
  part_same part.Null (part.Int y) h g = refl
  part_same part.Null (part.Bool y) h g = refl
  part_same part.Null (part.Text n) h g = refl
  part_same (part.Int x) part.Null h g = refl
  part_same (part.Int x) (part.Int y) h g = refl
  part_same (part.Int x) (part.Bool y) h g = refl
  part_same (part.Int x) (part.Text n) h g = refl
  part_same (part.Bool x) part.Null h g = refl
  part_same (part.Bool x) (part.Int y) h g = refl
  part_same (part.Bool x) (part.Bool y) h g = refl
  part_same (part.Bool x) (part.Text n) h g = refl
  part_same (part.Text m) part.Null h g = refl
  part_same (part.Text m) (part.Int y) h g = refl
  part_same (part.Text m) (part.Bool y) h g = refl
  part_same (part.Text m) (part.Text n) h g = texts_same m n h g

  parts_same : (ps qs : List Part) → All (IsWithin (length ts)) ps → All (IsWithin (length ts)) qs → same_parts ps qs ≡ same_key (key_of_parts ts ps) (key_of_parts ts qs)
  parts_same [] [] h g = refl
  parts_same [] (q ∷ qs) h g = refl
  parts_same (p ∷ ps) [] h g = refl
  parts_same (p ∷ ps) (q ∷ qs) h g =
      let W = IsWithin (length ts) in
      ap (λ b. b && same_parts ps qs) (part_same p q (All-head W p ps h) (All-head W q qs g))
      ∙ ap (λ b. same_item (item_of_part ts p) (item_of_part ts q) && b) (parts_same ps qs (All-tail W p ps h) (All-tail W q qs g))

  abbrev key : List Part → List Item
  key k = key_of_parts ts k

  abbrev AllWithin : List Part → Type 0
  AllWithin k = All (IsWithin (length ts)) k

  among_same : (k : List Part) (ks : List (List Part)) → AllWithin k → All AllWithin ks → list_any (same_parts k) ks ≡ list_any (same_key (key k)) (keys_shown ts ks)
  among_same k [] h g = refl
  among_same k (l ∷ ks) h g =
      ap (λ b. b || list_any (same_parts k) ks) (parts_same k l h (All-head AllWithin l ks g))
      ∙ ap (λ b. same_key (key k) (key l) || b) (among_same k ks h (All-tail AllWithin l ks g))

  joined : (ks : List (List Part)) (k : List Part) (b : Bool) → keys_shown ts (cond b ks (ks ++ k ∷ [])) ≡ cond b (keys_shown ts ks) (keys_shown ts ks ++ key k ∷ [])
  joined ks k true = refl
  joined ks k false = map-append key ks (k ∷ [])

  -- A key that was put in.
  pub keys_inserted : (ks new : List (List Part)) (k : List Part) → AllWithin k → All AllWithin ks → new ≡ insert_key same_parts ks k
      → keys_shown ts new ≡ insert_key same_key (keys_shown ts ks) (key k)
  keys_inserted ks new k h g is =
      ap (keys_shown ts) is ∙ joined ks k (list_any (same_parts k) ks)
      ∙ ap (λ b. cond b (keys_shown ts ks) (keys_shown ts ks ++ key k ∷ [])) (among_same k ks h g)

-- Its number.
pub numbered : {E : Type 0} (r : Result ℕ E) (ts : List (List ℕ)) (ks : List (List Part)) (k : List Part) → IfOk r (λ n. slice_get ks n ≡ Some k)
    → IfOk r (λ n. slice_get (keys_shown ts ks) n ≡ Some (key_of_parts ts k))
numbered (Ok n) ts ks k at = slice_get-map (key_of_parts ts) ks n ∙ ap (option_map (key_of_parts ts)) at
numbered (Err e) ts ks k at = tt

pub items_reported : {V E : Type 0} (r : Result V E) (f : V → List Item) (keys : List (List Item)) (n : ℕ) (k : List Item) → slice_get keys n ≡ Some k
    → IfOk r (λ v. f v ≡ k) → IfOk r (λ v. slice_get keys n ≡ Some (f v))
items_reported (Ok v) f keys n k at h = at ∙ ap Some (sym h)
items_reported (Err e) f keys n k at h = tt

-- The keys are within, whether one was put in or not.
pub within_placed : {E : Type 0} (r : Result ℕ E) (n : ℕ) (ks new : List (List Part)) (k : List Part) → All (IsWithin n) k → AreWithin n ks
    → OnOk r (new ≡ insert_key same_parts ks k) → OnErr r (new ≡ ks) → AreWithin n new
within_placed (Ok x) n ks new k h g is same = subst (AreWithin n) (sym is) (go (list_any (same_parts k) ks)) where
  go : (b : Bool) → AreWithin n (cond b ks (ks ++ k ∷ []))
  go true = g
  go false = All-push (All (IsWithin n)) ks k g h
within_placed (Err e) n ks new k h g is same = subst (AreWithin n) (sym same) g
