use Rattle.std.proofs.Common.{◌∙◌, ap, sym}
use Rattle.arrays.specs.Batch.{differing_type}
use Rattle.arrays.proofs.BatchLemmas.{differing_type-fields}
use Rattle.arrays.proofs.batch.type_difference.Goals as goal

pub returns : goal.returns
returns c =
    c.first_type_difference.ensures
    ∙ sym (differing_type-fields c.fields.result.now c.args.columns.now)
    ∙ ap (λ fields. differing_type fields c.args.columns.now) c.fields.ensures.value
