-- Codes of items and of what an array shows: by them a proof tells such values apart.
use Rattle.std.specs.Prelude.{◌≡◌, ℕ, zero, suc, ℤ, Option, List, [], ◌∷◌, ◌++◌, Bool, refl}
use Rattle.std.specs.Coded.{Coded, code_by, coded_ℕ, coded_ℤ, coded_bool, coded_list, coded_option, coded×, coded⊎}
use Rattle.std.proofs.Common.{◌⊎◌, inl, inr, ap, ◌∙◌}
use Rattle.types.specs.Prelude.{Kind, kind_code}
use Rattle.layout.specs.Item.{Item, Items, null, int, boolean, text, list, none, more}
use Rattle.layout.specs.Seen.{Seen, Entries}

-- ---- items, as the steps that build them on a stack

-- Put a value, put an empty list, or put the item below into the list on top: a number, a truth value,
-- a text, or by number 0 null, 1 the empty list, 2 the last.
abbrev pub Step : Type 0
Step = ℤ ⊎ (Bool ⊎ (List ℕ ⊎ ℕ))

abbrev mutual
  pub steps : Item → List Step
  steps null = inr (inr (inr 0)) ∷ []
  steps (int z) = inl z ∷ []
  steps (boolean b) = inr (inl b) ∷ []
  steps (text t) = inr (inr (inl t)) ∷ []
  steps (list xs) = steps_of xs

  pub steps_of : Items → List Step
  steps_of none = inr (inr (inr 1)) ∷ []
  steps_of (more x xs) = steps_of xs ++ (steps x ++ inr (inr (inr 2)) ∷ [])

-- The item on top goes into the list below it.
abbrev joined : List Item → List Item
joined (x ∷ (list xs ∷ rest)) = list (more x xs) ∷ rest
joined stack = stack

abbrev numbered : ℕ → List Item → List Item
numbered zero stack = null ∷ stack
numbered (suc zero) stack = list none ∷ stack
numbered (suc (suc n)) stack = joined stack

abbrev step : Step → List Item → List Item
step (inl z) stack = int z ∷ stack
step (inr (inl b)) stack = boolean b ∷ stack
step (inr (inr (inl t))) stack = text t ∷ stack
step (inr (inr (inr n))) stack = numbered n stack

abbrev run : List Step → List Item → List Item
run [] stack = stack
run (s ∷ rest) stack = run rest (step s stack)

run-append : (xs ys : List Step) (stack : List Item) → run (xs ++ ys) stack ≡ run ys (run xs stack)
run-append [] ys stack = refl
run-append (x ∷ xs) ys stack = run-append xs ys (step x stack)

mutual
  pub run-steps : (x : Item) (stack : List Item) → run (steps x) stack ≡ x ∷ stack
  run-steps null stack = refl
  run-steps (int z) stack = refl
  run-steps (boolean b) stack = refl
  run-steps (text t) stack = refl
  run-steps (list xs) stack = run-steps_of xs stack

  run-steps_of : (xs : Items) (stack : List Item) → run (steps_of xs) stack ≡ list xs ∷ stack
  run-steps_of none stack = refl
  run-steps_of (more x xs) stack =
      run-append (steps_of xs) (steps x ++ inr (inr (inr 2)) ∷ []) stack
      ∙ ap (run (steps x ++ inr (inr (inr 2)) ∷ [])) (run-steps_of xs stack)
      ∙ run-append (steps x) (inr (inr (inr 2)) ∷ []) (list xs ∷ stack)
      ∙ ap (run (inr (inr (inr 2)) ∷ [])) (run-steps x (list xs ∷ stack))

abbrev top : List Item → Item
top [] = null
top (x ∷ rest) = x

abbrev pub item_code : Coded Item
item_code = code_by (List Step) (coded_list (coded⊎ coded_ℤ (coded⊎ coded_bool (coded⊎ (coded_list coded_ℕ) coded_ℕ)))) steps (λ s. top (run s [])) (λ x. ap top (run-steps x []))

abbrev pub items_code : Coded (List Item)
items_code = coded_list item_code

-- ---- what an array shows

abbrev pub entries_code : Coded Entries
entries_code = code_by (Option (List Bool) × List Item) (coded× (coded_option (coded_list coded_bool)) (coded_list item_code)) (λ e. (e.validity, e.items)) (λ p. record { validity = p.0; items = p.1 }) (λ _. refl)

abbrev pub seen_code : Coded Seen
seen_code =
    code_by (Kind × (Option (List Bool) × (List Item × (List Item × Entries))))
    (coded× kind_code (coded× (coded_option (coded_list coded_bool)) (coded× (coded_list item_code) (coded× (coded_list item_code) entries_code))))
    (λ s. (s.kind, (s.validity, (s.items, (s.codes, s.entries)))))
    (λ p. record { kind = p.0; validity = p.1.0; items = p.1.1.0; codes = p.1.1.1.0; entries = p.1.1.1.1 })
    (λ _. refl)
