-- Numbers from 0 up.
use Rattle.std.proofs.Common.{◌≡◌, ◌∙◌, ℕ, ◌<◌, ◌==◌, drop, slice_index, ℤ, pos, negsuc, ◌≤ℤ◌, nat_abs, Bool, true, false, true≢false, cond, Float, List, Option, Some, None, option_map, refl, sym, ap, arith}
use Rattle.std.proofs.lemmas.Bool.Decides.{nat_tests}
use Rattle.json_scan.specs.Prelude.{Parts, Spells, after_value, begins_colon, between, digits_of, fresh, lex, minus, scan, tokens_in, with_sign}
use Rattle.json_scan.specs.Json as json
use Rattle.json_read.specs.Prelude.{Items, Members, Num, array, as_integer, as_u64, float, negative, no_members, number, number_from, object, of_items, of_json, of_members, unsigned}
use Rattle.serde_json.specs.Read.{number_of}
use Rattle.json_scan.proofs.Values.{unconverted}

no_some : {A : Type 0} (a : A) → Some a ≡ None → ⊥
no_some a e = cc

-- ---- a number is a natural if its integer is none below 0

no_integer : (f : Bool) (x : Float) (n : Num) (z : ℤ) → cond f (Some (float x)) None ≡ Some n → as_integer n ≡ Some z → ⊥
no_integer true x n z e i =
    let same : float x ≡ n = cc in
    no_some z (sym i ∙ sym (ap as_integer same))
no_integer false x n z e i = no_some n (sym e)

no_sign : (b f : Bool) (k : ℕ) (x : Float) (n : Num) (m : ℕ) → cond b (Some (unsigned k)) (cond f (Some (float x)) None) ≡ Some n → as_integer n ≡ Some (pos m) → as_u64 n ≡ Some m
no_sign true f k x n m e i =
    let same : unsigned k ≡ n = cc in
    let value : k ≡ m = cc (ap as_integer same, i) in
    sym (ap as_u64 same) ∙ ap Some value
no_sign false f k x n m e i = absurd (no_integer f x n (pos m) e i)

below_zero : (k m : ℕ) → 0 < k → with_sign true k ≡ pos m → ⊥
below_zero k m h e = grind arith

minus_sign : (b f : Bool) (k : ℕ) (x : Float) (n : Num) (m : ℕ) → (b ≡ true → 0 < k) → cond b (Some (negative (with_sign true k))) (cond f (Some (float x)) None) ≡ Some n → as_integer n ≡ Some (pos m) → ⊥
minus_sign true f k x n m h e i =
    let same : negative (with_sign true k) ≡ n = cc in
    let value : with_sign true k ≡ pos m = cc (ap as_integer same, i) in
    below_zero k m (h refl) value
minus_sign false f k x n m h e i = no_integer f x n (pos m) e i

natural_of : (sign : Bool) (p : Parts) (n : Num) (m : ℕ) → number_from sign p ≡ Some n → as_integer n ≡ Some (pos m) → as_u64 n ≡ Some m
natural_of false p n m e i = no_sign _ _ (digits_of p) _ n m e i
natural_of true p n m e i = absurd (minus_sign _ _ (digits_of p) _ n m (λ b. grind (arith, nat_tests)) e i)

natural_by : (b : Bool) (p q : Parts) (n : Num) (m : ℕ) → cond b (number_from true p) (number_from false q) ≡ Some n → as_integer n ≡ Some (pos m) → as_u64 n ≡ Some m
natural_by true p q n m e i = natural_of true p n m e i
natural_by false p q n m e i = natural_of false q n m e i

natural_word : (w : List ℕ) (n : Num) (m : ℕ) → number_of w ≡ Some n → as_integer n ≡ Some (pos m) → as_u64 n ≡ Some m
unfolding number_of
natural_word w n m e i = natural_by (slice_index w 0 == minus) (scan (drop 1 w)) (scan w) n m e i

-- ---- a number in a text is that of a word

number_inside : (o : Option Num) (n : Num) → option_map number o ≡ Some (number n) → o ≡ Some n
number_inside None n e = absurd cc
number_inside (Some k) n e =
    let same : k ≡ n = cc in
    ap Some same

no_array : (o : Option Items) (n : Num) → option_map array o ≡ Some (number n) → ⊥
no_array None n e = cc
no_array (Some ds) n e = cc

no_object : (o : Option Members) (n : Num) → option_map object o ≡ Some (number n) → ⊥
no_object None n e = cc
no_object (Some ms) n e = cc

word_of : (j : json.Json) (n : Num) → of_json j ≡ Some (number n) → (w : List ℕ) × (number_of w ≡ Some n)
word_of json.null n e = absurd cc
word_of (json.boolean b) n e = absurd cc
word_of (json.number w) n e = (w, number_inside (number_of w) n e)
word_of (json.string s) n e = absurd cc
word_of (json.array js) n e = absurd (no_array (of_items js) n e)
word_of (json.object ms) n e = absurd (no_object (of_members ms no_members) n e)

module _ (xs ys : List ℕ) (n : Num) (m : ℕ) (i : as_integer n ≡ Some (pos m)) (s : Spells xs (number n) ys) where
  by_colon : (b : Bool) → begins_colon (lex between ys) ≡ b → (e : Num) × (as_u64 e ≡ Some m) × Spells xs (number e) ys
  by_colon true colon = (unsigned m, refl, λ depth. record { reads = λ p may apart. absurd (true≢false (sym colon ∙ apart)) })
  by_colon false apart =
      let j = unconverted of_json (json.value 0 (tokens_in fresh xs)) (number n) (tokens_in after_value ys) ((s 0).reads fresh refl apart) in
      let w = word_of j.0 n j.2 in
      (n, natural_word w.0 n m w.1 i, s)

  -- Before a colon the text has a key, of which nothing is claimed.
  pub natural_spelled : (e : Num) × (as_u64 e ≡ Some m) × Spells xs (number e) ys
  natural_spelled = by_colon (begins_colon (lex between ys)) refl

pub natural_is : (z : ℤ) → pos 0 ≤ℤ z → z ≡ pos (nat_abs z)
natural_is (pos n) h = refl
natural_is (negsuc n) h = grind arith
