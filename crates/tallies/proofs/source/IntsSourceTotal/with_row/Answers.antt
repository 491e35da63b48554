use Rattle.std.proofs.Common.{◌∙◌, ◌++◌, ◌∷◌, ◌+ℤ◌, [], FitsSigned, ap, arith, refl, sym}
use Rattle.std.specs.Int.{w128}
use Rattle.std.proofs.lemmas.Int.{ints, to_z-of_z}
use Rattle.evaluate.specs.Prelude.{Sum}
use Rattle.tallies.specs.Prelude.{show_total, tally_of}
use Rattle.tallies.proofs.ColumnLemmas.{number_slot}
use Rattle.tallies.proofs.TallyLemmas.{null_unsummed, number_summed}
use Rattle.tallies.proofs.source.IntsSourceTotal.with_row.Goals as goal

pub get-requires : goal.get-requires
get-requires g c =
    let s = c.args.self.now in
    number_slot g.T.Integer.ty s.values.now s.validity s.slots c.args.row c.requires.within

pub returns-in-Some : goal.returns-in-Some
returns-in-Some g c = λ xs h.
    let cell = c.args.cell in
    let r = c.with_number.result in
    let z = c.in-Some.number in
    let fits : FitsSigned w128 z = omega (arith, ints, c.in-Some.ensures.low z refl, c.in-Some.ensures.high z refl) in
    number_summed cell.count r.count cell.sum z r.sum xs (λ e. omega (arith, ints, cell.low, cell.high, e))
    c.with_number.ensures.count (c.with_number.ensures.sum ∙ ap (λ y. cell.sum +ℤ y) (to_z-of_z w128 z fits)) h
    ∙ ap (λ x. tally_of (Sum 0) (xs ++ x ∷ [])) (sym c.in-Some.ensures.item)

pub returns-in-None : goal.returns-in-None
returns-in-None g c = λ xs h. null_unsummed (show_total c.args.cell) xs h ∙ ap (λ x. tally_of (Sum 0) (xs ++ x ∷ [])) (sym c.in-None.ensures.item)
