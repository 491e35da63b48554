-- Each of a list once, in order of first appearance, where the test decides equality.
use Rattle.std.proofs.Common.{◌≡◌, ◌∙◌, Bool, true, false, not, ◌||◌, cond, List, [], ◌∷◌, ◌++◌, filter, refl, sym, ap}
use Rattle.std.specs.Bool.{Decides}
use Rattle.std.specs.List.{list_any}
use Rattle.std.specs.Cmp.{decided}
use Rattle.indexmap.specs.IndexSet.{insert_key}
use Rattle.std.proofs.lemmas.List.{append-nil}
use Rattle.std.proofs.lemmas.List.Elements.{filter-append}
use Rattle.keys.specs.Same.{firsts}
use Rattle.keys.proofs.SameLemmas.{either}

module _ {K : Type 0} (same : K → K → Bool) (decides : (x y : K) → Decides (same x y) (x ≡ y)) where
  abbrev among : List K → K → Bool
  among ks k = list_any (same k) ks

  -- Those of the list but k.
  abbrev but : K → List K → List K
  but k ks = filter (λ y. not (same k y)) ks

  -- Another key is among the rest where it is among all.
  among-but : (k x : K) (ks : List K) → same x k ≡ false → among (but k ks) x ≡ among ks x
  among-but k x [] apart = refl
  among-but k x (y ∷ ks) apart =
      either (same k y)
      (λ is.
      let off : same x y ≡ false = ap (same x) (sym ((decides k y).0 is)) ∙ apart in
      ap (λ b. among (cond (not b) (y ∷ but k ks) (but k ks)) x) is ∙ among-but k x ks apart ∙ sym (ap (λ b. b || among ks x) off))
      (λ other. ap (λ b. among (cond (not b) (y ∷ but k ks) (but k ks)) x) other ∙ ap (λ b. same x y || b) (among-but k x ks apart))

  but-push : (k x : K) (ks : List K) (b : Bool) → same k x ≡ b → but k (ks ++ x ∷ []) ≡ but k ks ++ cond (not b) (x ∷ []) []
  but-push k x ks b is = filter-append (λ y. not (same k y)) ks (x ∷ []) ∙ ap (λ b. but k ks ++ cond (not b) (x ∷ []) []) is

  inserted : (ks : List K) (x : K) (b : Bool) → among ks x ≡ b → insert_key same ks x ≡ cond b ks (ks ++ x ∷ [])
  inserted ks x b is = ap (λ b. cond b ks (ks ++ x ∷ [])) is

  -- One more at the end.
  pub firsts-push : (xs : List K) (x : K) → firsts same (xs ++ x ∷ []) ≡ insert_key same (firsts same xs) x
  firsts-push [] x = refl
  firsts-push (y ∷ xs) x =
      let fs = firsts same xs in
      let eq = decided same decides in
      ap (λ l. y ∷ but y l) (firsts-push xs x)
      ∙ either (same x y)
      (λ is.
      let back : same y x ≡ true = eq.symm y x ∙ is in
      let all : insert_key same (y ∷ but y fs) x ≡ y ∷ but y fs = inserted (y ∷ but y fs) x true (ap (λ b. b || among (but y fs) x) is) in
      either (among fs x)
      (λ here. ap (λ l. y ∷ but y l) (inserted fs x true here) ∙ sym all)
      (λ new. ap (λ l. y ∷ but y l) (inserted fs x false new) ∙ ap (λ l. y ∷ l) (but-push y x fs true back ∙ append-nil (but y fs)) ∙ sym all))
      (λ other.
      let back : same y x ≡ false = eq.symm y x ∙ other in
      let rest : among (y ∷ but y fs) x ≡ among fs x = ap (λ b. b || among (but y fs) x) other ∙ among-but y x fs other in
      either (among fs x)
      (λ here. ap (λ l. y ∷ but y l) (inserted fs x true here) ∙ sym (inserted (y ∷ but y fs) x true (rest ∙ here)))
      (λ new. ap (λ l. y ∷ but y l) (inserted fs x false new) ∙ ap (λ l. y ∷ l) (but-push y x fs false back)
      ∙ sym (inserted (y ∷ but y fs) x false (rest ∙ new))))

  -- What is among the firsts is among all.
  pub among-firsts : (xs : List K) (x : K) → among (firsts same xs) x ≡ among xs x
  among-firsts [] x = refl
  among-firsts (y ∷ xs) x =
      either (same x y)
      (λ is. ap (λ b. b || among (but y (firsts same xs)) x) is ∙ sym (ap (λ b. b || among xs x) is))
      (λ other. ap (λ b. same x y || b) (among-but y x (firsts same xs) other ∙ among-firsts xs x))
