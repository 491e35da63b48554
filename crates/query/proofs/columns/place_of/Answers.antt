use Rattle.std.proofs.Common.{◌∙◌, ap, sym, length}
use Rattle.std.specs.Prelude.{unwrap_or}
use Rattle.query.proofs.ColumnLemmas.{place_of-fields}
use Rattle.query.proofs.columns.place_of.Goals as goal

pub returns : goal.returns
returns c =
    c.unwrap_or.ensures
    ∙ ap (λ o. unwrap_or o (length c.args.fields.now)) c.first_of.ensures
    ∙ sym (place_of-fields c.args.fields.now c.args.name.now)
