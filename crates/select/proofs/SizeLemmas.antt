-- What one array holds is not too big for one.
use Rattle.std.proofs.Common.{◌≡◌, ◌∙◌, inl, inr, ℕ, List, length, map, Bool, true, false, Option, Some, Result, Ok, Err, IfErr, IfOk, sym, true≢false}
use Rattle.std.specs.List.{range_with_len}
use Rattle.arrays.specs.Kind as kind
use Rattle.arrays.specs.Prelude.{Seen, same_kind}
use Rattle.select.specs.Prelude.{IsFull, chosen, picked}
use Rattle.select.specs.declared.fault.SelectFault.{SelectFault}
use Rattle.select.specs.declared.fault.SelectFault.TheVariants.{NoMemory}
use Rattle.select.proofs.ChosenLemmas.{chosen-same}
use Rattle.select.proofs.ListLemmas.{picked-each}

-- ---- each row, picked once

pub each-chosen : {T : Type 0} (r : Result Seen T) (s : Seen) (rows : List (Option ℕ)) (n : ℕ) → rows ≡ map (λ i. Some i) (range_with_len 0 n) → n ≡ length s.items
    → IfOk r (λ a. a ≡ chosen s.kind (λ items. picked items rows) s) → IfOk r (λ a. same_kind s.kind kind.dict ≡ true → length s.codes ≡ length s.items)
    → IfOk r (λ a. a ≡ chosen s.kind (λ items. items) s)
each-chosen (Err e) s rows n are all is codes = tt
each-chosen (Ok a) s rows n are all is codes =
    is
    ∙ chosen-same s.kind (λ items. picked items rows) (λ items. items) s (picked-each s.items rows n are all) (λ d. picked-each s.codes rows n are (all ∙ sym (codes d)))

-- a fault of what isn't too big is want of memory
pub memory-alone : {T : Type 0} (r : Result T SelectFault) (full : Bool) → full ≡ false → IfErr r (IsFull full) → IfErr r (λ e. e ≡ NoMemory)
memory-alone (Ok v) full fits reported = tt
memory-alone (Err e) full fits reported = elim reported [ inl h ↦ absurd (true≢false (sym h.1 ∙ fits)) | inr h ↦ h ]
