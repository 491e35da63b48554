use Rattle.std.proofs.Common.{◌≡◌, ◌+◌, drop}
use Rattle.std.specs.List.{prefix_len}
use Rattle.std.specs.Char.{is_ascii_digit}
use Rattle.json.specs.Lex.{lex, in_word}
use Rattle.json_scan.proofs.number.digits_end.Given as goal

abbrev pub invariant-loop-end : goal.invariant-loop-end
invariant-loop-end l = record {
  count : l.end + prefix_len is_ascii_digit (drop l.end l.text) ≡ l.fn.at + prefix_len is_ascii_digit (drop l.fn.at l.text);
  word : lex in_word (drop l.end l.text) ≡ lex in_word (drop l.fn.at l.text);
}
