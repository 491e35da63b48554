use Rattle.std.proofs.Common.{get_or, arith, rules, tests}
use Rattle.std.proofs.lemmas.Bool.Decides.{nat_tests}
use Rattle.json_base.proofs.JsonNumbers.{none_from_digit, some_from_all, digit_value-digit}
use Rattle.json_base.proofs.number.numeral.Goals as goal

pub returns-in_err-checked_mul : goal.returns-in_err-checked_mul
returns-in_err-checked_mul c =
    rw c.from_residual.ensures (none_from_digit c.args.digits.now c.loop-digit.digit-index c.loop-digit.number (omega arith) c.loop-digit.invariant.value (omega (arith, c.in_err-checked_mul.ensures)))

pub returns-in_err-number : goal.returns-in_err-number
returns-in_err-number c =
    rw c.from_residual-in_err-number.ensures (none_from_digit c.args.digits.now c.loop-digit.digit-index c.loop-digit.number (omega arith) c.loop-digit.invariant.value (omega (arith, c.in_err-number.ensures, digit_value-digit (get_or c.args.digits.now c.loop-digit.digit-index 0) (search (rules, tests)) (search (rules, tests)))))

pub returns : goal.returns
returns c =
    some_from_all c.args.digits.now c.loop-digit.digit-index c.loop-digit.number (omega arith) (grind (arith, nat_tests)) c.loop-digit.invariant.digits c.loop-digit.invariant.value c.loop-digit.invariant.few
