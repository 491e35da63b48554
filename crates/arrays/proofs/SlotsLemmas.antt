-- Valid slots, then those that are given.
use Rattle.std.proofs.Common.{◌≡◌, ◌∙◌, ℕ, ◌+◌, List, [], ◌∷◌, ◌++◌, Bool, true, length, replicate, None, Result, Ok, Err, OnOk, OnErr, ◌≤◌, ap, sym, refl, arith, length-append}
use Rattle.std.proofs.lemmas.List.{append-nil, replicate-append-replicate, length-replicate}
use Rattle.std.proofs.lemmas.List.Elements.{All-replicate}
use Rattle.arrays.specs.Shown.{kept}
use Rattle.arrays.proofs.ValidityLemmas.{kept-ones}

pub replicate-more : (before count : ℕ) (after now : List Bool) → replicate before true ++ after ≡ now → length after ≡ 0 → replicate (before + count) true ++ after ≡ now ++ replicate count true
replicate-more before count [] now is none =
    append-nil (replicate (before + count) true)
    ∙ sym (replicate-append-replicate before count true)
    ∙ ap (λ xs. xs ++ replicate count true) (sym (append-nil (replicate before true)) ∙ is)
replicate-more before count (x ∷ xs) now is none = absurd (omega arith)

-- ---- what is kept of them

pub kept-valid : (before : ℕ) (after : List Bool) → length after ≡ 0 → kept (replicate before true ++ after) ≡ None
kept-valid before [] none =
    ap kept (append-nil (replicate before true)) ∙ kept-ones (replicate before true) (All-replicate (λ b. b ≡ true) before true refl)
kept-valid before (x ∷ xs) none = absurd (omega arith)

-- ---- many slots

-- no more slots than there is room for, whether they are added or not
pub short_still : {T E : Type 0} (r : Result T E) (before count most : ℕ) (after new reported now : List Bool) → replicate before true ++ after ≡ now → length reported ≡ count → length now + count ≤ most
    → OnOk r (new ≡ after ++ reported) → OnErr r (new ≡ after) → before + length new ≤ most
short_still (Ok value) before count most after new reported now is size room grows same =
    omega (arith, ap length is, length-append (replicate before true) after, length-replicate before true, ap length grows, length-append after reported)
short_still (Err error) before count most after new reported now is size room grows same =
    omega (arith, ap length is, length-append (replicate before true) after, length-replicate before true, ap length same)
