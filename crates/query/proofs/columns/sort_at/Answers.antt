use Rattle.std.proofs.Common.{◌∙◌, ap, sym, Ok}
use Rattle.query.proofs.ColumnLemmas.{sort_at-field, sort_at-past}
use Rattle.query.proofs.columns.sort_at.Goals as goal

pub returns-in-Some : goal.returns-in-Some
returns-in-Some c =
    let found = c.in-Some.ensures.lookup in
    ap Ok c.sort_of_type.ensures ∙ sym (sort_at-field c.args.fields.now c.args.place c.in-Some.field.now found.3.0 found.1)

pub returns-in-None : goal.returns-in-None
returns-in-None c = sym (sort_at-past c.args.fields.now c.args.place c.in-None.ensures.lookup.3)
