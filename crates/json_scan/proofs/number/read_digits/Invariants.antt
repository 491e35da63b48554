use Rattle.std.proofs.Common.{◌≡◌, ◌+◌, ◌-◌, ◌≤◌, length, drop, slice_range}
use Rattle.std.specs.List.{prefix_len}
use Rattle.std.specs.Char.{is_ascii_digit}
use Rattle.std.specs.Str.Parse.{AllDigits, digits_value}
use Rattle.json.specs.Lex.{lex, in_word}
use Rattle.json_scan.proofs.number.read_digits.Given as goal

abbrev pub invariant-loop-end : goal.invariant-loop-end
invariant-loop-end l = record {
  onward : l.at ≤ l.end;
  within : l.end ≤ length l.text;
  digits : AllDigits 10 (slice_range l.text l.at l.end);
  value : l.value ≡ digits_value 10 (slice_range l.text l.at l.end);
  count : l.end + prefix_len is_ascii_digit (drop l.end l.text) ≡ l.at + prefix_len is_ascii_digit (drop l.at l.text);
  word : lex in_word (drop l.end l.text) ≡ lex in_word (drop l.at l.text);
}

abbrev pub decreases-loop-end : goal.decreases-loop-end
decreases-loop-end l = length l.text - l.end
