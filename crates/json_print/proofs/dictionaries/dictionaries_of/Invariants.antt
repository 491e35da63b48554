use Rattle.std.proofs.Common.{◌≡◌, ◌++◌, drop, map}
use Rattle.std.specs.Arc.{arc_value}
use Rattle.arrays.specs.Prelude.{fields_of}
use Rattle.json_base.specs.JsonTable.{tables_of}
use Rattle.json_print.specs.Dictionaries.{dictionaries_from}
use Rattle.json_print.proofs.dictionaries.dictionaries_of.Given as goal

-- with the fields that are left all dictionaries are there
abbrev pub invariant-loop-place : goal.invariant-loop-place
invariant-loop-place l =
    let tables = tables_of (map arc_value l.batches) in
    l.dictionaries.items ++ dictionaries_from l.place (fields_of (drop l.place l.fields)) tables ≡ dictionaries_from 0 (fields_of l.fields) tables
