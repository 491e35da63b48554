use Rattle.std.proofs.Common.{◌∙◌, ◌∷◌, [], map, option_map, ap}
use Rattle.std.proofs.lemmas.List.{map-append}
use Rattle.std.specs.Arc.{arc_value}
use Rattle.json_read.specs.CatalogParts.{coding_of}
use Rattle.json_file.proofs.BatchesRead.{batches_more}
use Rattle.json_file.proofs.batches.BatchesItemVisitor.visit.Goals as goal

pub returns-clause-ok : goal.returns-clause-ok
returns-clause-ok c =
    let batch = c.in_ok-batch.batch.value in
    let old = c.args.self.now.batches.items in
    let read = c.in_ok-batch.ensures.ok in
    let grown = ap (map arc_value) c.in_ok-push.ensures ∙ map-append arc_value old (batch ∷ []) in (
      read.0,
      read.1,
      λ first ds h.
          let same = ap (λ r. arc_value r.now) h.0 in
          let coded = ap (λ r. map (option_map coding_of) r.now) h.1 in
          (h.0, h.1, batches_more _ _ _ _ ds read.0 (map arc_value old) _ (arc_value batch) same coded h.2 c.in_ok-batch.ensures.fields read.2 grown),
    )
