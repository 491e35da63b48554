use Rattle.std.proofs.Common.{◌≡◌, map, string_bytes, take}
use Rattle.arrays.specs.Prelude.{field_of}
use Rattle.reports.specs.Fields.{schema_lines}
use Rattle.reports.proofs.schema.schema_text.Given as goal

-- The lines of the fields so far.
abbrev pub invariant-loop-field : goal.invariant-loop-field
invariant-loop-field l = string_bytes l.text ≡ schema_lines (map field_of (take l.field-index l.fields))
