-- Things that are put into groups.
use Rattle.std.specs.Prelude.{ℕ, ◌-◌, List, [], ◌∷◌, ◌++◌, length, replicate, slice_set, slice_index_or}

-- Group n with a thing more at its end.
abbrev pub put : {A : Type 0} → ℕ → A → List (List A) → List (List A)
put n x groups = slice_set groups n (slice_index_or groups n [] ++ x ∷ [])

-- Each thing at the end of the group that its id names.
abbrev pub spread : {A : Type 0} → List ℕ → List A → List (List A) → List (List A)
spread [] xs groups = groups
spread (n ∷ ns) [] groups = groups
spread (n ∷ ns) (x ∷ xs) groups = spread ns xs (put n x groups)

-- So many, those that are missing like this one.
abbrev pub padded : {A : Type 0} → ℕ → A → List A → List A
padded n x xs = xs ++ replicate (n - length xs) x
