-- The book of a table.
use Rattle.std.specs.Prelude.{ℕ}
use Rattle.table.specs.declared.entry.Entry.{Entry}

-- What clauses see of an entry: the worker and the rows.
abbrev pub pair_of : Entry → ℕ × ℕ
pair_of e = (e.worker, e.rows)
