use Rattle.std.proofs.Common.{◌≢◌, length, sym, arith}
use Rattle.query.proofs.CheckLemmas.{wrong_count}
use Rattle.query.proofs.check.+check.Goals as goal

pub checked_operator-returns-in_ok-walk-in_default : goal.checked_operator-returns-in_ok-walk-in_default
checked_operator-returns-in_ok-walk-in_default g t c =
    let one : length c.args.operands.now ≢ 1 = λ e. grind arith in
    let two : length c.args.operands.now ≢ 2 = λ e. grind arith in
    sym (wrong_count (g.C.Column.sort_in c.args.schema.now) c.args.op c.args.operands.now one two c.in_ok-walk-in_default.ensures)
