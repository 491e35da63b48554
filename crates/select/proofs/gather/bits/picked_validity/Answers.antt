use Rattle.std.proofs.Common.{◌≡◌, ◌∙◌, ℕ, List, Bool, None, Some, ap, get_or, length, map, refl, subst, sym, true}
use Rattle.std.specs.List.{All, range_with_len}
use Rattle.arrays.specs.Prelude.{IsBufferOf, kept}
use Rattle.arrays.proofs.ValidityLemmas.{kept-ones, kept-some}
use Rattle.select.specs.Stored.{is_stored}
use Rattle.select.proofs.BitsLemmas.{bits-enough, bits-seen}
use Rattle.select.proofs.StoredLemmas.{rows-valid}
use Rattle.select.proofs.gather.bits.picked_validity.Goals as goal

pub returns-then-are_rows : goal.returns-then-are_rows
returns-then-are_rows g c = subst (IsBufferOf None) (sym (rows-valid c.args.validity.now (g.R.Rows.picks c.args.rows.now) c.if-is_none.ensures (c.if-are_rows.ensures refl))) tt

pub new-requires : goal.new-requires
new-requires g c =
    let picks = g.R.Rows.picks c.args.rows.now in
    bits-enough (λ j. is_stored c.args.validity.now (get_or picks j None)) c.slots.result (length picks) c.bytes.result.now c.in_ok-packed.packed c.slots.ensures.count c.bytes.ensures c.in_ok-packed.ensures

pub returns-then-are_ones : goal.returns-then-are_ones
returns-then-are_ones g c =
    let picks = g.R.Rows.picks c.args.rows.now in
    let f = λ (j : ℕ). is_stored c.args.validity.now (get_or picks j None) in
    let seen = c.new.ensures ∙ bits-seen f c.slots.result (length picks) c.bytes.result.now c.in_ok-packed.packed c.slots.ensures.count c.bytes.ensures c.in_ok-packed.ensures in
    subst (IsBufferOf None) (sym (ap kept (sym seen) ∙ kept-ones c.new.result (c.are_ones.ensures.0 c.if-are_ones.true))) tt

pub returns : goal.returns
returns g c =
    let picks = g.R.Rows.picks c.args.rows.now in
    let f = λ (j : ℕ). is_stored c.args.validity.now (get_or picks j None) in
    let values = map f (range_with_len 0 (length picks)) in
    let seen = c.new.ensures ∙ bits-seen f c.slots.result (length picks) c.bytes.result.now c.in_ok-packed.packed c.slots.ensures.count c.bytes.ensures c.in_ok-packed.ensures in
    let some : All (λ b. b ≡ true) values → ⊥ = λ all. let t = c.are_ones.ensures.1 (subst (λ (l : List Bool). All (λ b. b ≡ true) l) (sym seen) all) in let f = c.if-are_ones.false in cc in
    subst (IsBufferOf (Some c.in_ok-packed.packed)) (sym (kept-some values some)) c.in_ok-packed.ensures
