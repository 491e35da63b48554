-- Texts in a row, with a byte between each two.
use Rattle.std.proofs.Common.{◌≡◌, ℕ, Bool, true, false, List, [], ◌∷◌, ◌++◌, append-nil, ap, cond, refl}
use Rattle.std.specs.List.{join_with_byte}

-- Those that are left, behind others or the first.
abbrev pub joined_behind : ℕ → Bool → List (List ℕ) → List ℕ
joined_behind c behind [] = []
joined_behind c behind (t ∷ ts) = cond behind (c ∷ []) [] ++ (t ++ joined_behind c true ts)

later : (c : ℕ) (x : List ℕ) (xs : List (List ℕ)) → joined_behind c true (x ∷ xs) ≡ c ∷ join_with_byte c (x ∷ xs)
later c x [] = ap (λ t. c ∷ t) (append-nil x)
later c x (y ∷ xs) = ap (λ t. c ∷ (x ++ t)) (later c y xs)

pub joined : (c : ℕ) (xs : List (List ℕ)) → joined_behind c false xs ≡ join_with_byte c xs
joined c [] = refl
joined c (x ∷ []) = append-nil x
joined c (x ∷ y ∷ xs) = ap (λ t. x ++ t) (later c y xs)
