use Rattle.std.proofs.Common.{◌∙◌, map, ap, subst, sym}
use Rattle.std.specs.Arc.{arc_value}
use Rattle.answers.specs.Prelude.{fits, query_shape}
use Rattle.arrow_json.specs.Prelude.{AreUnder}
use Rattle.test_queries.proofs.BatchLemmas.{fits_each, types_same}
use Rattle.test_queries.proofs.answering.read_both.Goals as goal

pub returns-clause-fits : goal.returns-clause-fits
returns-clause-fits c =
    let batches = map arc_value c.into_parts-schema.result.1.items in
    let file = c.in_ok-read_file.field-0 in
    fits_each file.fields (query_shape c.in_ok-query.query) batches (ap (λ fs. fits fs (query_shape c.in_ok-query.query)) (sym c.into_parts-schema.ensures.schema ∙ sym c.deref.ensures) ∙ c.in_ok-query.ensures.fits)
    (subst (AreUnder file.fields) (sym c.into_parts-schema.ensures.batches) c.in_ok-read_file.ensures.under)

pub returns-clause-types : goal.returns-clause-types
returns-clause-types c =
    let batches = map arc_value c.into_parts-schema.result.1.items in
    let file = c.in_ok-read_file.field-0 in
    types_same file.fields batches (subst (AreUnder file.fields) (sym c.into_parts-schema.ensures.batches) c.in_ok-read_file.ensures.under)
