use Rattle.std.proofs.Common.{◌∙◌, List, [], ap, refl, subst, sym}
use Rattle.std.specs.Arc.{arc_value}
use Rattle.std.specs.declared.alloc.Global.{Global}
use Rattle.std.specs.declared.vec.Vec.{Vec}
use Rattle.arrays.specs.Prelude.{FieldShape}
use Rattle.answers.specs.Prelude.{ColumnStats}
use Rattle.table.specs.Lawful.{dictionaries_of}
use Rattle.compaction.specs.Statistics.{AreStatsOf}
use Rattle.table.proofs.EmptyLemmas.{storage-empty}
use Rattle.table.proofs.storage.Storage.empty.Goals as goal

pub returns-clause-storage : goal.returns-clause-storage
returns-clause-storage c =
    let kept = c.in_ok-new.ensures.ok in
    storage-empty _ c.new-2.ensures.items c.in_ok-empty.ensures c.in_ok-empty-2.ensures refl
    (subst (λ (v : Vec ColumnStats Global). AreStatsOf (arc_value c.in_ok-new.field-0) [] v.items) (sym c.in_ok-new-2.ensures.ok)
    (subst (λ (f : List FieldShape). AreStatsOf f [] c.in_ok-stats.stats.items) (c.fields.ensures.value ∙ sym kept) c.in_ok-stats.ensures))
    (c.in_ok-dictionaries.ensures ∙ ap (λ (f : List FieldShape). dictionaries_of f []) (c.fields-2.ensures.value ∙ sym kept))
