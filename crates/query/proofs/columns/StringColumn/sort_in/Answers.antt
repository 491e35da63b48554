use Rattle.std.proofs.Common.{◌∙◌, ap}
use Rattle.query.specs.CalledColumns.{sort_named}
use Rattle.query.proofs.columns.StringColumn.sort_in.Goals as goal

pub returns : goal.returns
returns c =
    c.sort_named.ensures
    ∙ ap (λ fields. sort_named fields c.as_str.result.now) c.fields.ensures.value
    ∙ ap (sort_named c.args.schema.now) c.as_str.ensures.value
