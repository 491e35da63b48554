use Rattle.std.proofs.Common.{◌∙◌, ◌++◌, ◌∷◌, [], FitsSigned, ap, arith, refl, sym}
use Rattle.std.specs.Int.{w128}
use Rattle.std.proofs.lemmas.Int.{ints, to_z-of_z}
use Rattle.arrays.specs.Prelude.{int}
use Rattle.tallies.specs.Prelude.{agg_at, number_if_any, tally_of, with_item}
use Rattle.tallies.proofs.ColumnLemmas.{number_slot}
use Rattle.tallies.proofs.TallyLemmas.{item_bettered}
use Rattle.tallies.proofs.source.CandidatesSourceBestNumber.with_row.Goals as goal

pub get-requires : goal.get-requires
get-requires g c =
    let s = c.args.self.now.column.now in
    number_slot g.T.Integer.ty s.values.now s.validity s.slots c.args.row c.requires.within

pub returns-in-Some : goal.returns-in-Some
returns-in-Some g c = λ xs h.
    let end = c.args.self.now.end in
    let z = c.in-Some.number in
    let old = number_if_any c.args.cell.number in
    let fits : FitsSigned w128 z = omega (arith, ints, c.in-Some.ensures.low z refl, c.in-Some.ensures.high z refl) in
    item_bettered end 0 old (number_if_any c.with_number.result.number) xs (int z)
    (c.with_number.ensures ∙ ap (λ y. with_item end old (int y)) (to_z-of_z w128 z fits)) h
    ∙ ap (λ x. tally_of (agg_at end 0) (xs ++ x ∷ [])) (sym c.in-Some.ensures.item)
