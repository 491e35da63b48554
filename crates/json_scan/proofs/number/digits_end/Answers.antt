use Rattle.std.proofs.Common.{◌≡◌, ◌∙◌, ◌<◌, true, length, get_or, sym, arith}
use Rattle.std.proofs.lemmas.List.Sums.{prefix_len-drop_yes}
use Rattle.std.specs.Char.{is_ascii_digit}
use Rattle.json_scan.proofs.Lexemes.{digit_over}
use Rattle.json_scan.proofs.number.digits_end.Goals as goal

pub loop-end-preserved : goal.loop-end-preserved
loop-end-preserved c =
    let d = c.args.text.now in
    let i = c.loop-end.end in
    let within : i < length d = omega arith in
    let digit : is_ascii_digit (get_or d i 0) ≡ true = sym c.if-not-is_digit.ensures in
    record { count = omega (arith, c.loop-end.invariant.count, prefix_len-drop_yes is_ascii_digit d i 0 within digit); word = sym (digit_over d i within digit) ∙ c.loop-end.invariant.word }
