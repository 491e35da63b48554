use Rattle.std.proofs.Common.{◌≡◌, ◌++◌, drop, map, string_bytes}
use Rattle.std.specs.Prelude.{nat_lt}
use Rattle.std.specs.List.{join_with_byte, zip}
use Rattle.arrays.specs.Prelude.{fields_of, row_of}
use Rattle.reports.specs.Rows.{member_text}
use Rattle.reports.proofs.JoinLemmas.{joined_behind}
use Rattle.reports.proofs.head.push_members.Given as goal

-- The members that are left.
abbrev pub invariant-loop-k : goal.invariant-loop-k
invariant-loop-k l =
    string_bytes l.text ++ joined_behind 44 (nat_lt 0 l.k) (map member_text (zip (fields_of (drop l.k l.fields)) (row_of (drop l.k l.columns) l.row)))
    ≡ string_bytes l.fn.text ++ join_with_byte 44 (map member_text (zip (fields_of l.fields) (row_of l.columns l.row)))
