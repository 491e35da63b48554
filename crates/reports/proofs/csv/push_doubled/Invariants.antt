use Rattle.std.proofs.Common.{◌≡◌, ◌++◌, string_bytes}
use Rattle.std.specs.Prelude.{flat_map}
use Rattle.reports.specs.Csv.{doubled_char}
use Rattle.reports.proofs.csv.push_doubled.Given as goal

-- The characters so far.
abbrev pub invariant-loop-c : goal.invariant-loop-c
invariant-loop-c l = string_bytes l.text ≡ string_bytes l.fn.text ++ flat_map doubled_char l.yielded
