use Rattle.std.proofs.Common.{Some, arith}
use Rattle.select.specs.Picked.{first_rows}
use Rattle.select.proofs.RestLemmas.{below_all, first_row_at, length-first_rows, reported_next}
use Rattle.select.proofs.rows.FirstRowsRows.next.Goals as goal

pub overflow_add-place : goal.overflow_add-place
overflow_add-place c =
    let n = c.args.self.now.count in
    omega (arith, below_all (first_rows n) c.args.place.now.at c.requires, length-first_rows n, c.args.self.now.short)

pub returns : goal.returns
returns c =
    let n = c.args.self.now.count in
    let at = c.args.place.now.at in
    reported_next (first_rows n) at (Some at) (first_row_at n at (omega (arith, below_all (first_rows n) at c.requires, length-first_rows n)))
