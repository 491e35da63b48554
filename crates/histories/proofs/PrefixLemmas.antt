-- Beginnings of lists.
use Rattle.std.proofs.Common.{◌≡◌, ◌+◌, ◌≤◌, List, [], ◌∷◌, ◌++◌, length, refl, ap, sym, ◌∙◌, arith, append_assoc, length-append}
use Rattle.std.proofs.lemmas.List.{append-nil}
use mathlib.Core.List.{IsPrefix}

module _ {A : Type 0} where
  pub prefix_self : (xs : List A) → IsPrefix xs xs
  prefix_self xs = ([], append-nil xs)

  pub prefix_trans : (xs ys zs : List A) → IsPrefix xs ys → IsPrefix ys zs → IsPrefix xs zs
  prefix_trans xs ys zs p q = (p.0 ++ q.0, sym (append_assoc xs p.0 q.0) ∙ ap (λ l. l ++ q.0) p.1 ∙ q.1)

  pub prefix_length : (xs ys : List A) → IsPrefix xs ys → length xs ≤ length ys
  prefix_length xs ys p = omega (arith, ap length p.1, length-append xs p.0)

  -- of two beginnings of one list the shorter begins the other
  pub prefix_shared : (xs ys zs : List A) → IsPrefix xs zs → IsPrefix ys zs → length xs ≤ length ys → IsPrefix xs ys
  prefix_shared [] ys zs p q few = (ys, refl)
  prefix_shared (x ∷ xs) [] zs p q few = absurd (omega (arith, few))
  prefix_shared (x ∷ xs) (y ∷ ys) [] p q few = absurd (cc (p.1))
  prefix_shared (x ∷ xs) (y ∷ ys) (z ∷ zs) p q few =
      let tails = prefix_shared xs ys zs (p.0, cc (p.1)) (q.0, cc (q.1)) (omega (arith, few)) in
      let heads : x ≡ y = cc (p.1, q.1) in
      (tails.0, cc (heads, tails.1))

  -- a beginning that is no shorter is the list
  pub prefix_whole : (xs ys : List A) → IsPrefix xs ys → length ys ≤ length xs → xs ≡ ys
  prefix_whole [] [] p few = refl
  prefix_whole [] (y ∷ ys) p few = absurd (omega (arith, few))
  prefix_whole (x ∷ xs) [] p few = absurd (cc (p.1))
  prefix_whole (x ∷ xs) (y ∷ ys) p few =
      let rest = prefix_whole xs ys (p.0, cc (p.1)) (omega (arith, few)) in cc (p.1, rest)
