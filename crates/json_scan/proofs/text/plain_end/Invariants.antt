use Rattle.std.proofs.Common.{◌≡◌, drop, slice_range}
use Rattle.json.specs.Lex.{lex, in_string}
use Rattle.json.specs.Text.{content, plain, prepend}
use Rattle.json_scan.proofs.text.plain_end.Given as goal

abbrev pub invariant-loop-end : goal.invariant-loop-end
invariant-loop-end l = record {
  content : content plain (drop l.fn.at l.text) ≡ prepend (slice_range l.text l.fn.at l.end) (content plain (drop l.end l.text));
  passed : lex in_string (drop l.end l.text) ≡ lex in_string (drop l.fn.at l.text);
}
