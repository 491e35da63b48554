use Rattle.std.proofs.Common.{◌∙◌, ◌||◌, ap, not, sym}
use Rattle.table.specs.Stored.{is_stored_as}
use Rattle.table.proofs.CauseLemmas.{differs-fields}
use Rattle.table.proofs.cause.does_differ.Goals as goal

pub returns-else-ne : goal.returns-else-ne
returns-else-ne c =
    let stored = c.args.stored.now in
    let handed = c.args.handed.now in
    sym (differs-fields stored handed ∙ ap (λ n. n || not (is_stored_as stored.ty handed.ty)) (sym c.if-ne.ensures) ∙ ap not (sym c.is_stored_as.ensures))
