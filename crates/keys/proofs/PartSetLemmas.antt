-- Keys in a set, and their parts.
use lib.Pointwise.{pointwise, pointwise_decides}
use Rattle.std.proofs.Common.{◌≡◌, ◌∙◌, ℕ, pos, arith, ◌+◌, ◌-◌, ◌^◌, ◌<◌, ◌≤◌, Bool, true, false, ◌&&◌, ◌||◌, cond, ltb, List, [], ◌∷◌, ◌++◌, length, map, take, get_or, Some, refl, rules, sym, ap}
use Rattle.std.specs.Prelude.{IfOk, Option, Result, Ok, Err, option_map, nat_eq, slice_get, if◌then◌else◌}
use Rattle.std.specs.Bool.{Decides}
use Rattle.std.specs.Option.{ForSome}
use Rattle.std.specs.Cmp.{IsEquivalence, booleans_Decides, decided}
use Rattle.std.specs.List.{IsDistinct, list_any}
use Rattle.std.proofs.Math.Bool.{and-true}
use Rattle.std.proofs.lemmas.Bool.{eqb-false, eqb-true, ltb-false}
use Rattle.std.proofs.lemmas.Bool.Decides.{Decides-int_eq}
use Rattle.std.proofs.lemmas.Cmp.{nat_eq_equiv}
use Rattle.arrays.specs.Prelude.{natural}
use Rattle.std.proofs.lemmas.List.{map-append, take_all, take_more}
use Rattle.std.proofs.lemmas.List.Sums.{fold_push}
use Rattle.std.proofs.lemmas.Map.Keys.{any_passes_from_place}
use Rattle.std.proofs.lemmas.Option.{slice_get-map}
use Rattle.indexmap.specs.IndexSet.{insert_all, insert_key}
use Rattle.indexmap.proofs.SetLemmas.{set_all_distinct}
use Rattle.keys.specs.declared.part.Part.{Part}
use Rattle.keys.specs.declared.part.Part.TheVariants as part
use Rattle.keys.specs.contracts.part.PartPartialEq as derived
use Rattle.keys.specs.Prelude.{one, part_of_code, parts_of_code, same_part, same_parts}
use Rattle.keys.proofs.SameLemmas.{either}

-- ---- the derived test

abbrev pub part_eq : Part → Part → Bool
part_eq = (derived.TheImpl.ghosts).eq

is_same_part : (p q : Part) → part_eq p q ≡ same_part p q
is_same_part part.Null part.Null = refl
is_same_part part.Null (part.Int y) = refl
is_same_part part.Null (part.Bool y) = refl
is_same_part part.Null (part.Text n) = refl
is_same_part (part.Int x) part.Null = refl
is_same_part (part.Int x) (part.Int y) = refl
is_same_part (part.Int x) (part.Bool y) = refl
is_same_part (part.Int x) (part.Text n) = refl
is_same_part (part.Bool x) part.Null = refl
is_same_part (part.Bool x) (part.Int y) = refl
is_same_part (part.Bool x) (part.Bool y) = refl
is_same_part (part.Bool x) (part.Text n) = refl
is_same_part (part.Text m) part.Null = refl
is_same_part (part.Text m) (part.Int y) = refl
is_same_part (part.Text m) (part.Bool y) = refl
is_same_part (part.Text m) (part.Text n) = refl

pub are_same_parts : (ps qs : List Part) → pointwise part_eq ps qs ≡ same_parts ps qs
are_same_parts [] [] = refl
are_same_parts [] (q ∷ qs) = refl
are_same_parts (p ∷ ps) [] = refl
are_same_parts (p ∷ ps) (q ∷ qs) = ap (λ b. b && pointwise part_eq ps qs) (is_same_part p q) ∙ ap (λ b. same_part p q && b) (are_same_parts ps qs)

-- ---- parts are the same exactly where they are equal

parts_equal : (p q : Part) → same_part p q ≡ true → p ≡ q
parts_equal part.Null part.Null h = refl
parts_equal part.Null (part.Int y) h = absurd cc
parts_equal part.Null (part.Bool y) h = absurd cc
parts_equal part.Null (part.Text n) h = absurd cc
parts_equal (part.Int x) part.Null h = absurd cc
parts_equal (part.Int x) (part.Int y) h = ap part.Int ((Decides-int_eq x y).0 h)
parts_equal (part.Int x) (part.Bool y) h = absurd cc
parts_equal (part.Int x) (part.Text n) h = absurd cc
parts_equal (part.Bool x) part.Null h = absurd cc
parts_equal (part.Bool x) (part.Int y) h = absurd cc
parts_equal (part.Bool x) (part.Bool y) h = ap part.Bool ((booleans_Decides x y).0 h)
parts_equal (part.Bool x) (part.Text n) h = absurd cc
parts_equal (part.Text m) part.Null h = absurd cc
parts_equal (part.Text m) (part.Int y) h = absurd cc
parts_equal (part.Text m) (part.Bool y) h = absurd cc
parts_equal (part.Text m) (part.Text n) h = ap part.Text (eqb-true m n h)

part_itself : (p : Part) → same_part p p ≡ true
part_itself part.Null = refl
part_itself (part.Int x) = (Decides-int_eq x x).1 refl
part_itself (part.Bool x) = (booleans_Decides x x).1 refl
part_itself (part.Text m) = search rules

same_part-Decides : (p q : Part) → Decides (same_part p q) (p ≡ q)
same_part-Decides p q = (parts_equal p q, λ e. ap (same_part p) (sym e) ∙ part_itself p)

same_parts-Decides : (ps qs : List Part) → Decides (same_parts ps qs) (ps ≡ qs)
same_parts-Decides = pointwise_decides same_part-Decides

-- ---- a set of keys that are shown by their parts

module _ {K : Type 0} (f : K → List Part) (eq : K → K → Bool) (alike : (x y : K) → eq x y ≡ same_parts (f x) (f y)) where
  among_shown : (k : K) (ks : List K) → list_any (eq k) ks ≡ list_any (same_parts (f k)) (map f ks)
  among_shown k [] = refl
  among_shown k (l ∷ ks) = ap (λ b. b || list_any (eq k) ks) (alike k l) ∙ ap (λ b. same_parts (f k) (f l) || b) (among_shown k ks)

  joined : (ks : List K) (k : K) (b : Bool) → map f (cond b ks (ks ++ k ∷ [])) ≡ cond b (map f ks) (map f ks ++ f k ∷ [])
  joined ks k true = refl
  joined ks k false = map-append f ks (k ∷ [])

  pub inserted_shown : (ks : List K) (k : K) → map f (insert_key eq ks k) ≡ insert_key same_parts (map f ks) (f k)
  inserted_shown ks k = joined ks k (list_any (eq k) ks) ∙ ap (λ b. cond b (map f ks) (map f ks ++ f k ∷ [])) (among_shown k ks)

  pub place_shown : (ks : List K) (n : ℕ) (k l : K) → slice_get ks n ≡ Some l → eq k l ≡ true → slice_get (map f ks) n ≡ Some (f k)
  place_shown ks n k l at is =
      slice_get-map f ks n ∙ ap (option_map f) at ∙ ap Some (sym ((same_parts-Decides (f k) (f l)).0 (sym (alike k l) ∙ is)))

-- ---- one more of a list, put into the set of those before it

module _ {K : Type 0} (f : K → List Part) (eq : K → K → Bool) (alike : (x y : K) → eq x y ≡ same_parts (f x) (f y)) (d : K) where
  pub shown_more : (xs : List K) (i : ℕ) (shown new : List (List Part)) (ps : List Part) → i < length xs
      → shown ≡ map f (insert_all eq [] (take i xs)) → ps ≡ f (get_or xs i d) → new ≡ insert_key same_parts shown ps
      → new ≡ map f (insert_all eq [] (take (i + 1) xs))
  shown_more xs i shown new ps below are here is =
      let x = get_or xs i d in
      let front = insert_all eq [] (take i xs) in
      is ∙ ap (insert_key same_parts shown) here ∙ ap (λ l. insert_key same_parts l (f x)) are
      ∙ sym (inserted_shown f eq alike front x)
      ∙ ap (map f) (sym (ap (insert_all eq []) (take_more xs i d below) ∙ fold_push (insert_key eq) [] (take i xs) x))

  pub shown_all : (laws : IsEquivalence eq) (xs : List K) (n : ℕ) (shown : List (List Part)) → length xs ≤ n → IsDistinct eq xs
      → shown ≡ map f (insert_all eq [] (take n xs)) → shown ≡ map f xs
  shown_all laws xs n shown long apart are =
      are ∙ ap (map f) (ap (insert_all eq []) (take_all n xs long) ∙ set_all_distinct laws [] xs apart)

-- ---- keys of one part

pub ones_alike : (p q : Part) → part_eq p q ≡ same_parts (one p) (one q)
ones_alike p q = is_same_part p q ∙ sym (and-true (same_part p q))

pub part_eq_equiv : IsEquivalence part_eq
part_eq_equiv = decided part_eq (λ p q. ((λ h. parts_equal p q (sym (is_same_part p q) ∙ h)), (λ e. is_same_part p q ∙ (same_part-Decides p q).1 e)))

-- ---- codes

-- The code of a part.
code_back : Part → ℕ
code_back part.Null = 2 ^ 17
code_back (part.Int z) = natural z
code_back (part.Bool b) = 0
code_back (part.Text n) = n + (2 ^ 17 + 1)

back_again : (c : ℕ) → code_back (part_of_code c) ≡ c
unfolding code_back
back_again c = go (ltb c (2 ^ 17)) (nat_eq c (2 ^ 17)) refl refl where
  go : (a b : Bool) → ltb c (2 ^ 17) ≡ a → nat_eq c (2 ^ 17) ≡ b
      → code_back (if a then part.Int (pos c) else (if b then part.Null else part.Text (c - (2 ^ 17 + 1)))) ≡ c
  go true b p q = refl
  go false true p q = sym (eqb-true c (2 ^ 17) q)
  go false false p q = omega (arith, ltb-false c (2 ^ 17) p, eqb-false c (2 ^ 17) q)

pub codes_alike : (x y : ℕ) → nat_eq x y ≡ same_parts (parts_of_code x) (parts_of_code y)
codes_alike x y =
    let decides = same_parts-Decides (parts_of_code x) (parts_of_code y) in
    either (nat_eq x y)
    (λ yes. yes ∙ sym (decides.1 (ap parts_of_code (eqb-true x y yes))))
    (λ no. no ∙ sym (either (same_parts (parts_of_code x) (parts_of_code y))
    (λ same. absurd (eqb-false x y no (back (decides.0 same)))) (λ other. other))) where
      back : parts_of_code x ≡ parts_of_code y → x ≡ y
      back e = sym (back_again x) ∙ ap (λ ps. code_back (get_or ps 0 part.Null)) e ∙ back_again y

-- A code that is there isn't put there again, and a new one comes to the end.
pub code_again : (xs : List ℕ) (n x : ℕ) → slice_get xs n ≡ Some x → map parts_of_code xs ≡ insert_key same_parts (map parts_of_code xs) (parts_of_code x)
code_again xs n x at =
    sym (ap (λ b. map parts_of_code (if b then xs else xs ++ x ∷ [])) (any_passes_from_place (nat_eq x) xs n x at (nat_eq_equiv.refl x)))
    ∙ inserted_shown parts_of_code nat_eq codes_alike xs x

pub code_new : (xs new : List ℕ) (x : ℕ) → new ≡ xs ++ x ∷ [] → list_any (nat_eq x) xs ≡ false
    → map parts_of_code new ≡ insert_key same_parts (map parts_of_code xs) (parts_of_code x)
code_new xs new x is absent =
    ap (map parts_of_code) is ∙ sym (ap (λ b. map parts_of_code (if b then xs else xs ++ x ∷ [])) absent)
    ∙ inserted_shown parts_of_code nat_eq codes_alike xs x

pub code_shown : (xs : List ℕ) (n x : ℕ) → slice_get xs n ≡ Some x → slice_get (map parts_of_code xs) n ≡ Some (parts_of_code x)
code_shown xs n x at = slice_get-map parts_of_code xs n ∙ ap (option_map parts_of_code) at

-- What holds of a place that is reported, where there is one.
pub if_place : {E : Type 0} (r : Result (Option ℕ) E) (P Q : ℕ → Type 0) → ((n : ℕ) → P n → Q n) → IfOk r (λ o. ForSome o P) → IfOk r (λ o. ForSome o Q)
if_place (Ok o) P Q f h = λ n is. f n (h n is)
if_place (Err e) P Q f h = tt
