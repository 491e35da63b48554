use Rattle.std.proofs.Common.{◌⊎◌, ◌<◌, ◌≤◌, ◌∙◌, ◌+◌, drop, ap, arith}
use Rattle.std.specs.Char.{encode_utf8}
use Rattle.json.specs.Text.{content, plain, prepend}
use Rattle.json_scan.proofs.Strings.{at_high, at_character, unit_passed}
use Rattle.json_scan.proofs.text.read_code_point.Goals as goal

pub returns-then-unit-lt56320-clause-content : goal.returns-then-unit-lt56320-clause-content
returns-then-unit-lt56320-clause-content c =
    rw (at_high c.args.text.now c.args.at c.in_ok-unit.unit (omega arith) c.in_ok-unit.ensures.value (omega arith) (omega arith)) c.read_low_surrogate.ensures.content

pub returns-then-unit-lt56320-clause-passed : goal.returns-then-unit-lt56320-clause-passed
returns-then-unit-lt56320-clause-passed c =
    rw (unit_passed c.args.text.now c.args.at (c.args.at + 4) c.in_ok-unit.unit (omega arith) (omega arith) c.in_ok-unit.ensures.value) c.read_low_surrogate.ensures.passed

pub returns-clause-content : goal.returns-clause-content
returns-clause-content c =
    let d = c.args.text.now in
    let u = c.in_ok-unit.unit in
    let apart : (u < 0xd800) ⊎ (0xe000 ≤ u) = grind arith in
    at_character d c.args.at u (omega arith) c.in_ok-unit.ensures.value apart ∙ ap (λ k. prepend (encode_utf8 k) (content plain (drop (c.args.at + 4) d))) (omega (arith, c.in_ok-value.ensures.value))

pub returns-clause-passed : goal.returns-clause-passed
returns-clause-passed c = unit_passed c.args.text.now c.args.at (c.args.at + 4) c.in_ok-unit.unit (omega arith) (omega arith) c.in_ok-unit.ensures.value
