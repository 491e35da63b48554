-- The step that adds an entry keeps the rule.
use Rattle.std.proofs.Common.{◌≡◌, ℕ, ◌+◌, ◌<◌, ◌==◌, Bool, true, false, List, [], ◌∷◌, ◌++◌, length, refl, ap, sym, subst, arith, inl, length-append, None}
use Rattle.std.proofs.lemmas.List.{append-nil}
use Rattle.std.proofs.lemmas.Bool.Decides.{nat_tests}
use mathlib.Core.List.{IsPrefix}
use prog.Atomic.{either}
use Rattle.logbook.specs.Pages.{Cell, cell, keeps, no_nib, step, Moves, Goes}
use Rattle.histories.specs.Rule.{IsCounted, Adds}
use Rattle.histories.proofs.PrefixLemmas.{prefix_whole}

module _ {E : Type 0} where
  abbrev shown : List E → List E
  shown log = []

  abbrev moved : List E → List E → ℕ → Type 0
  moved before after answer = Unit {0}

  goes : (log seen : List E) (e : E) (old : ℕ) → length seen ≡ old → IsPrefix seen log → (b : Bool) → (length log == old) ≡ b
      → Goes IsCounted shown moved 0 (seen, (no_nib, None)) (λ n. either (n == old) (old + 1) n) (Adds (step 0 old (old + 1) e) (seen, (no_nib, None))) ((length log, true) ∷ (0, true) ∷ []) log
  goes log seen e old count begun true is =
      let here : length log ≡ old = grind (arith, nat_tests) in
      let same : seen ≡ log = prefix_whole seen log begun (omega (arith, here, count)) in
      let more : either (length log == old) (old + 1) (length log) ≡ length (log ++ e ∷ []) = rw is (omega (arith, here, length-append log (e ∷ []))) in
      (keeps, e ∷ [], None, tt, ap (λ (n : ℕ). (n, true) ∷ (0, true) ∷ []) more, inl (refl, refl), rw is (ap (λ l. l ++ e ∷ []) (sym same)))
  goes log seen e old count begun false is =
      let all : log ++ [] ≡ log = append-nil log in
      let more : either (length log == old) (old + 1) (length log) ≡ length (log ++ []) = rw is (ap length (sym all)) in
      (keeps, [], None, tt, ap (λ (n : ℕ). (n, true) ∷ (0, true) ∷ []) more, inl (refl, refl), rw is tt)

  -- whatever the log is, the entry stands behind all that was seen, or the log was longer
  pub adds_moves : (seen : List E) (e : E) (old : ℕ) → length seen ≡ old
      → Moves IsCounted shown moved 0 (seen, (no_nib, None)) (λ n. either (n == old) (old + 1) n) (Adds (step 0 old (old + 1) e) (seen, (no_nib, None)))
  adds_moves seen e old count cells log kept begun away =
      subst
      (λ (c : List Cell). (0 < length c) × ((cell c 0).1 ≡ true) × Goes IsCounted shown moved 0 (seen, (no_nib, None)) (λ n. either (n == old) (old + 1) n) (Adds (step 0 old (old + 1) e) (seen, (no_nib, None))) c log)
      (sym kept)
      (omega arith, refl, goes log seen e old count begun (length log == old) refl)
