-- Results that are too big.
use Rattle.std.proofs.Common.{◌≡◌, ◌∙◌, ℕ, ◌+◌, ◌≤◌, List, [], ◌∷◌, ◌++◌, take, Bool, true, Option, Some, Result, Ok, Err, IfErr, IsErrAnd, ap, sym, arith, inl, inr}
use Rattle.std.specs.Prelude.{slice_get}
use Rattle.std.proofs.lemmas.List.{take-map}
use Rattle.std.proofs.lemmas.List.Sums.{sum_by-take-le}
use Rattle.arrays.specs.Prelude.{IsBuildFault, Item, Narrow, OffsetWidth, Wide, is_full, is_past, most_slots, text_bytes, text_length}
use Rattle.arrays.specs.Lengths as build
use Rattle.arrays.specs.declared.builder.fault.BuildFault.{BuildFault}
use Rattle.select.specs.declared.fault.SelectFault.{SelectFault}
use Rattle.select.specs.Prelude.{IsFull, of_build, picked, picked_at}
use Rattle.arrays.proofs.CutLemmas.{full-grows, past-more}
use Rattle.select.proofs.PickLemmas.{picked-more}

-- texts of the first rows are too many only where those of all are
pub full-picked : (w : OffsetWidth) (items : List Item) (picks : List (Option ℕ)) (j : ℕ) (pick : Option ℕ) (old : List Item) (x : Item) → slice_get picks j ≡ Some pick
    → old ≡ picked items (take j picks) → x ≡ picked_at items pick → is_full w (text_bytes (old ++ x ∷ [])) ≡ true → is_full w (text_bytes (picked items picks)) ≡ true
full-picked w items picks j pick old x at is of full =
    let front : old ++ x ∷ [] ≡ take (j + 1) (picked items picks) =
    ap (λ l. l ++ x ∷ []) is ∙ ap (λ y. picked items (take j picks) ++ y ∷ []) of ∙ sym (picked-more items picks j pick at) ∙ sym (take-map (picked_at items) (j + 1) picks) in
    full-grows w (text_bytes (old ++ x ∷ [])) (text_bytes (picked items picks))
    (omega (arith, ap text_bytes front, sum_by-take-le text_length (picked items picks) (j + 1))) full

-- a builder's fault, reported of all
pub reported_of_all : {T : Type 0} (r : Result T SelectFault) (b : BuildFault) (one all : Bool) → IsErrAnd r (λ e. e ≡ of_build b)
    → IsBuildFault one b → (one ≡ true → all ≡ true) → IfErr r (IsFull all)
reported_of_all (Ok v) b one all same reported grows = tt
reported_of_all (Err e) b one all same reported grows = elim reported [ inl h ↦ inl (same ∙ ap of_build h.0, grows h.1) | inr h ↦ inr (same ∙ ap of_build h.0) ]

pub full_of_build : {T : Type 0} (r : Result T SelectFault) (b : BuildFault) (one all : Bool) → IsErrAnd r (λ e. e ≡ of_build b)
    → build.IsFull one b → (one ≡ true → all ≡ true) → IfErr r (IsFull all)
full_of_build (Ok v) b one all same reported grows = tt
full_of_build (Err e) b one all same reported grows = elim reported [ inl h ↦ inl (same ∙ ap of_build h.0, grows h.1) | inr h ↦ inr (same ∙ ap of_build h) ]
