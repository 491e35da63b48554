use Rattle.std.proofs.Common.{◌≡◌, ◌∙◌, None, ap, sym}
use Rattle.arrays.specs.Prelude.{fields_of, schema_fault}
use Rattle.table.specs.Stored.{stored_fields}
use Rattle.table.proofs.StoredLemmas.{no_fault, schema_fault-stored}
use Rattle.table.proofs.stored.stored_schema.Goals as goal

pub unreachable-requires : goal.unreachable-requires
unreachable-requires c =
    let lawful : schema_fault c.args.schema ≡ None = ap schema_fault (sym c.schema.view_is) ∙ c.schema.invariant in
    no_fault (schema_fault (fields_of c.in_ok-stored_all.field-0.items)) c.in-Err.field-0
    (ap schema_fault (c.in_ok-stored_all.ensures ∙ ap stored_fields c.fields.ensures.value) ∙ schema_fault-stored c.args.schema ∙ lawful) c.in-Err.ensures.err
