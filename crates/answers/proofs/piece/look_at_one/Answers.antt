use Rattle.std.proofs.Common.{◌∙◌, ◌+◌, ◌≤◌, List, ap, arith, map, subst, sym}
use Rattle.std.specs.Arc.{arc_value}
use Rattle.arrays.specs.Batch.{Batch}
use Rattle.answers.specs.Prelude.{all_rows, cut_at, first_fields}
use Rattle.answers.proofs.PieceLemmas.{are_looked, cuts_rise}
use Rattle.answers.proofs.piece.look_at_one.Goals as goal

pub look_at_rows-requires-clause-order : goal.look_at_rows-requires-clause-order
look_at_rows-requires-clause-order g c κs within =
    let pieces = c.args.scan.now.cuts.pieces in
    let place = c.args.place in
    subst (λ n. n ≤ c.at-last.result) (sym c.at-first.ensures)
    (subst (λ n. cut_at c.args.scan.now.cuts.rows pieces place ≤ n) (sym c.at-last.ensures) (cuts_rise c.args.scan.now.cuts.rows pieces place (place + 1) c.requires.scan.one (omega arith)))

pub returns : goal.returns
returns g c =
    let bs : List Batch = map arc_value c.args.scan.now.batches.now in
    let rows = all_rows bs in
    let pieces = c.args.scan.now.cuts.pieces in
    let from = c.args.place in
    let counted = c.requires.scan.counted in
    are_looked (first_fields bs) c.args.scan.now.query.now rows pieces from (from + 1) c.at-first.result c.at-last.result c.look_at_rows.result
    (c.at-first.ensures ∙ ap (λ n. cut_at n pieces from) counted) (c.at-last.ensures ∙ ap (λ n. cut_at n pieces (from + 1)) counted)
    c.look_at_rows.ensures.ok c.look_at_rows.ensures.err
