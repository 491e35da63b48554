use Rattle.std.proofs.Common.{◌≡◌, drop}
use Rattle.json.specs.Lex.{lex, between}
use Rattle.json_scan.proofs.space.after_space.Given as goal

abbrev pub invariant-loop-end : goal.invariant-loop-end
invariant-loop-end l = lex between (drop l.end l.text) ≡ lex between (drop l.fn.at l.text)
