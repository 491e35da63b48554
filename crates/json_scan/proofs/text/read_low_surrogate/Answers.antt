use Rattle.std.proofs.Common.{◌∙◌, ◌+◌, drop, ap, arith}
use Rattle.std.specs.Char.{encode_utf8}
use Rattle.json.specs.Lex.{lex, in_string}
use Rattle.json.specs.Text.{content, plain, prepend}
use Rattle.json_scan.proofs.Strings.{at_pair, slash_passed, escaped_over, unit_passed}
use Rattle.json_scan.proofs.text.read_low_surrogate.Goals as goal

pub returns-clause-content : goal.returns-clause-content
returns-clause-content c =
    let d = c.args.text.now in
    let at = c.args.at in
    at_pair d at c.args.high c.in_ok-low.low (at + 2) (omega arith) (omega arith) (omega arith) (omega arith) c.in_ok-low.ensures.value (omega arith) (omega arith)
    ∙ ap (λ u. prepend (encode_utf8 u) (content plain (drop (at + 6) d))) (omega (arith, c.in_ok-value.ensures.value))

pub returns-clause-passed : goal.returns-clause-passed
returns-clause-passed c =
    let d = c.args.text.now in
    let at = c.args.at in
    slash_passed d at (omega arith) (omega arith) ∙ escaped_over d (at + 1) (omega arith) ∙ ap (λ n. lex in_string (drop n d)) (omega arith) ∙ unit_passed d (at + 2) (at + 6) c.in_ok-low.low (omega arith) (omega arith) c.in_ok-low.ensures.value
