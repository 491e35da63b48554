use Rattle.std.proofs.Common.{◌∙◌, ap, sym}
use Rattle.selqumar_core.specs.Prelude.{Contents, fits, query_shape}
use Rattle.test_growths.proofs.query_calls.Asking.new.Goals as goal

pub invariant_of-result : goal.invariant_of-result
invariant_of-result c = record {
  fits =
      ap (λ fs. fits fs (query_shape c.in_ok-query.query)) (ap (λ (v : Contents). v.fields) (sym c.deref.ensures) ∙ sym c.schema.ensures)
      ∙ c.in_ok-query.ensures.fits;
}
