use Rattle.std.proofs.Common.{◌≡◌, ◌∙◌, ◌<◌, true, length, get_or, sym, arith}
use Rattle.std.proofs.lemmas.List.Sums.{prefix_len-drop_yes}
use Rattle.std.specs.Char.{is_ascii_digit}
use Rattle.json_scan.proofs.Lexemes.{digit_over}
use Rattle.json_scan.proofs.Numbers.{digits_more, value_more}
use Rattle.json_scan.proofs.number.read_digits.Goals as goal

pub loop-end-preserved : goal.loop-end-preserved
loop-end-preserved c =
    let d = c.args.text.now in
    let i = c.loop-end.end in
    let so_far = c.loop-end.invariant in
    let within : i < length d = omega arith in
    let digit : is_ascii_digit (get_or d i 0) ≡ true = sym c.if-is_digit.ensures in
    record {
      onward = omega (arith, so_far.onward);
      within = omega arith;
      digits = digits_more d c.args.at i so_far.onward within digit so_far.digits;
      value = value_more d c.args.at i so_far.onward within digit c.loop-end.value c.in_ok-value.value so_far.value (omega (arith, c.in_ok-checked_mul.ensures, c.in_ok-value.ensures));
      count = omega (arith, so_far.count, prefix_len-drop_yes is_ascii_digit d i 0 within digit);
      word = sym (digit_over d i within digit) ∙ so_far.word;
    }
