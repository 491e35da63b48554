use Rattle.std.proofs.Common.{◌≡◌, ◌++◌, string_bytes}
use Rattle.std.specs.Prelude.{flat_map}
use Rattle.reports.specs.Lines.{escaped_char}
use Rattle.reports.proofs.name.push_name.Given as goal

-- The characters so far.
abbrev pub invariant-loop-c : goal.invariant-loop-c
invariant-loop-c l = string_bytes l.text ≡ string_bytes l.fn.text ++ flat_map escaped_char l.yielded
