use Rattle.std.proofs.Common.{◌≡◌, map, drop}
use Rattle.std.specs.List.{enumerate_from}
use Rattle.arrays.specs.Prelude.{Table, fields_of, first}
use Rattle.table.specs.Prelude.{HasColumns, null_cause, null_in}
use Rattle.table.proofs.nulls.null_refusal.Given as goal

-- the fields so far have no null that they may not hold
abbrev pub invariant-loop-column : goal.invariant-loop-column
invariant-loop-column l = (t : Table) → HasColumns t l.columns → null_cause (fields_of l.fields) t ≡ first (map (null_in t) (enumerate_from l.column (drop l.column (fields_of l.fields))))
