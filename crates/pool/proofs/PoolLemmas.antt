-- A pool by its fields.
use Rattle.std.proofs.Common.{◌≡◌, ◌∙◌, ℕ, ◌+◌, ◌-◌, ◌<◌, ◌≤◌, false, List, [], ◌∷◌, ◌++◌, length, take, drop, map, refl, sym, ap, if◌then◌else◌, arith, length-append, String}
use Rattle.std.specs.Prelude.{sum_by}
use Rattle.std.specs.List.{list_any}
use Rattle.std.specs.Str.{bytes_eq}
use Rattle.std.specs.String.{string_bytes, string_eq}
use Rattle.std.proofs.lemmas.List.{take-map, map-append, take_rest}
use Rattle.std.proofs.lemmas.List.Sums.{sum_by-cons, sum_by-take-drop, sum_by_push}
use Rattle.pool.specs.Prelude.{IsPool, byte_count, is_among, is_once, is_too_full}
use Rattle.pool.proofs.TextLemmas.{is_once-push, is_once-take, fits_from, fits_to, is_too_full-take}
use Rattle.pool.proofs.PlaceLemmas.{list_any-map}
use Rattle.arrays.specs.Prelude.{most_slots}

pub map-take : {X Y : Type 0} (f : X → Y) (n : ℕ) (xs : List X) → map f (take n xs) ≡ take n (map f xs)
map-take f n xs = sym (take-map f n xs)

byte_count-map : {X : Type 0} (f : X → List ℕ) (xs : List X) → byte_count (map f xs) ≡ sum_by (λ x. length (f x)) xs
byte_count-map f [] = refl
byte_count-map f (x ∷ xs) =
    sum_by-cons length (f x) (map f xs) ∙ ap (λ n. length (f x) + n) (byte_count-map f xs) ∙ sym (sum_by-cons (λ x. length (f x)) x xs)

module _ {X : Type 0} (f : X → List ℕ) where
  pub cut_bounded : (keys : List X) (bytes n : ℕ) → IsPool (map f keys) bytes
      → sum_by (λ x. length (f x)) (take (length keys - n) (drop n keys)) ≤ most_slots
  cut_bounded keys bytes n is =
      let g : X → ℕ = λ x. length (f x) in
      let rest : sum_by g (take (length keys - n) (drop n keys)) ≡ sum_by g (drop n keys) = ap (sum_by g) (take_rest keys n) in
      omega (arith, rest, sum_by-take-drop g keys n, byte_count-map f keys, (fits_from (map f keys) is.fits).1)

  pub cut_within : (keys : List X) (bytes n cut : ℕ) → IsPool (map f keys) bytes
      → cut ≡ sum_by (λ x. length (f x)) (take (length keys - n) (drop n keys)) → cut ≤ bytes
  cut_within keys bytes n cut is cut_is =
      let g : X → ℕ = λ x. length (f x) in
      let rest : sum_by g (take (length keys - n) (drop n keys)) ≡ sum_by g (drop n keys) = ap (sum_by g) (take_rest keys n) in
      omega (arith, cut_is, rest, sum_by-take-drop g keys n, byte_count-map f keys, is.counted)

  pub IsPool-take : (keys : List X) (bytes n cut : ℕ) → IsPool (map f keys) bytes
      → cut ≡ sum_by (λ x. length (f x)) (take (length keys - n) (drop n keys)) → IsPool (map f (take n keys)) (bytes - cut)
  IsPool-take keys bytes n cut is cut_is =
      let g : X → ℕ = λ x. length (f x) in
      let rest : sum_by g (take (length keys - n) (drop n keys)) ≡ sum_by g (drop n keys) = ap (sum_by g) (take_rest keys n) in
      record {
        once = ap is_once (map-take f n keys) ∙ is_once-take (map f keys) n is.once;
        fits = ap is_too_full (map-take f n keys) ∙ is_too_full-take (map f keys) n is.fits;
        counted = omega (arith, cut_is, rest, sum_by-take-drop g keys n, byte_count-map f keys, byte_count-map f (take n keys), is.counted);
      }

pub IsPool-push : (ts : List (List ℕ)) (bytes : ℕ) (t : List ℕ) → IsPool ts bytes → is_among ts t ≡ false → length ts < most_slots → length t ≤ most_slots - bytes
    → IsPool (ts ++ t ∷ []) (bytes + length t)
IsPool-push ts bytes t is apart few short =
    let p = fits_from ts is.fits in
    record {
      once = is_once-push ts t is.once apart;
      fits = fits_to (ts ++ t ∷ []) (omega (arith, length-append ts (t ∷ []), few)) (omega (arith, sum_by_push length ts t, is.counted, short, p.1));
      counted = omega (arith, sum_by_push length ts t, is.counted);
    }

-- What an insertion of a new text shows.
pub inserted : {Z : Type 0} (keys new : List (String Z)) (copy : String Z) (t : List ℕ)
    → new ≡ (if list_any (string_eq copy) keys then keys else keys ++ copy ∷ []) → string_bytes copy ≡ t → is_among (map string_bytes keys) t ≡ false
    → map string_bytes new ≡ map string_bytes keys ++ t ∷ []
inserted keys new copy t is copied apart =
    let any : list_any (string_eq copy) keys ≡ false = sym (list_any-map (bytes_eq (string_bytes copy)) string_bytes keys) ∙ ap (is_among (map string_bytes keys)) copied ∙ apart in
    ap (map string_bytes) (is ∙ ap (λ b. if b then keys else keys ++ copy ∷ []) any)
    ∙ map-append string_bytes keys (copy ∷ []) ∙ ap (λ u. map string_bytes keys ++ u ∷ []) copied
