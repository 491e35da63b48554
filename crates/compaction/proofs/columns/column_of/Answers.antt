use Rattle.std.proofs.Common.{◌∙◌, List, ap, get_or, sym}
use Rattle.arrays.specs.Prelude.{Seen}
use Rattle.arrays.proofs.BatchLemmas.{column-is}
use Rattle.compaction.proofs.columns.column_of.Goals as goal

pub returns-clause-items : goal.returns-clause-items
returns-clause-items c =
    let k = c.args.k in
    let one = c.index-columns-k.result in
    ap (λ (s : Seen). s.items) (c.view.ensures ∙ c.index-columns-k.is ∙ ap (λ (l : List Seen). get_or l k one) c.columns.ensures.value)
    ∙ sym (column-is c.args.batch.now k one c.columns.ensures.lawful c.requires)
