use Rattle.std.proofs.Common.{◌≡◌, ◌++◌, drop, map, string_bytes}
use Rattle.std.specs.Prelude.{nat_lt}
use Rattle.std.specs.List.{join_with_byte}
use Rattle.reports.specs.Csv.{csv_text}
use Rattle.reports.proofs.JoinLemmas.{joined_behind}
use Rattle.reports.proofs.csv.push_texts.Given as goal

-- The texts that are left.
abbrev pub invariant-loop-i : goal.invariant-loop-i
invariant-loop-i l =
    string_bytes l.text ++ joined_behind 44 (nat_lt 0 l.i) (map csv_text (map string_bytes (drop l.i l.values)))
    ≡ string_bytes l.fn.text ++ join_with_byte 44 (map csv_text (map string_bytes l.values))
