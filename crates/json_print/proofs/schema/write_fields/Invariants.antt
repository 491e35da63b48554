use Rattle.std.proofs.Common.{◌≡◌, ◌++◌, drop}
use Rattle.arrays.specs.Prelude.{fields_of}
use Rattle.json.specs.Tree.{items_tokens}
use Rattle.json_base.specs.Prelude.{items_outline}
use Rattle.json_print.specs.SchemaData.{fields_data}
use Rattle.json_print.proofs.schema.write_fields.Given as goal

-- with the fields that are left all is written
abbrev pub invariant-loop-place : goal.invariant-loop-place
invariant-loop-place l = l.out ++ items_tokens (items_outline (fields_data l.place (fields_of (drop l.place l.fields)))) ≡ l.fn.out ++ items_tokens (items_outline (fields_data 0 (fields_of l.fields)))
