use Rattle.std.proofs.Common.{◌≡◌, ◌∙◌, ◌∷◌, [], ap, option_map, sym}
use Rattle.arrays.specs.Prelude.{fields_of, first, rows_of}
use Rattle.table.specs.Cause.{difference, null_cause}
use Rattle.table.specs.declared.refusal.Refusal.TheVariants.{SchemaDiffers}
use Rattle.table.proofs.CauseLemmas.{first-one, nulls-reported}
use Rattle.table.proofs.cause.misfit.Goals as goal

pub returns : goal.returns
returns c =
    let fields = c.args.schema.now in
    let b = c.args.batch.now in
    let nulls = nulls-reported fields (fields_of c.fields.result.now) b c.columns.result.now c.null_refusal.result c.columns.ensures.lawful c.fields.ensures.value c.columns.ensures.value c.null_refusal.ensures in
    let none = sym c.in_default.is ∙ c.schema_difference.ensures ∙ ap (difference fields) c.schema.ensures in
    nulls ∙ first-one (null_cause fields (rows_of b)) ∙ ap (λ o. first (option_map (λ k. SchemaDiffers k) o ∷ null_cause fields (rows_of b) ∷ [])) none
