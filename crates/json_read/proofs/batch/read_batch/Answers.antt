use Rattle.std.proofs.Common.{◌≡◌, ◌∙◌, Result, Ok, Err, None, length, ap, subst, sym}
use Rattle.std.specs.Arc.{arc_value}
use Rattle.std.specs.Result.{MatchResult, IfOk}
use Rattle.arrays.specs.Batch.{Batch, batch_fault}
use Rattle.json_read.proofs.JsonRecordBatches.{batch_fault-read, reads_batch}
use Rattle.json_base.proofs.JsonResults.{value_kept}
use Rattle.json_read.proofs.batch.read_batch.Goals as goal

ok_case : {A E : Type 0} (P : A → Type 0) (Q : E → Type 0) (r : Result A E) → MatchResult r P Q → IfOk r P
ok_case P Q (Ok x) h = h
ok_case P Q (Err e) h = tt

pub under-requires : goal.under-requires
under-requires c =
    let wrapper = value_kept _ _ c.read_columns-read.result c.map_err.result c.in_ok-columns.columns c.map_err.ensures.cases c.in_ok-columns.was c.read_columns-read.ensures.ok in
    let cloned = ok_case (λ s. arc_value s ≡ arc_value c.args.schema.now) _ c.clone.result c.clone.ensures.cases in
    let named : arc_value c.in_ok-schema.schema ≡ arc_value c.args.schema.now =
    value_kept (λ s. arc_value s ≡ arc_value c.args.schema.now) _ c.clone.result c.map_err-2.result c.in_ok-schema.schema c.map_err-2.ensures.cases c.in_ok-schema.was cloned in
    subst (λ s. batch_fault s c.in_ok-rows.rows c.in_ok-columns.columns.items ≡ None) (sym named)
    (batch_fault-read (arc_value c.args.schema.now) _ _ _ _ _ (c.fields.ensures.value ∙ c.deref-2.ensures) wrapper (c.in_ok-values.ensures.whole ∙ (c.len.ensures ∙ ap length c.deref.ensures)) c.requires.len c.in_ok-rows.ensures.small)

pub returns-clause-ok : goal.returns-clause-ok
returns-clause-ok c =
    let wrapper = value_kept _ _ c.read_columns-read.result c.map_err.result c.in_ok-columns.columns c.map_err.ensures.cases c.in_ok-columns.was c.read_columns-read.ensures.ok in
    reads_batch (arc_value c.args.schema.now) _ _ _ _ _ _ c.under.result c.in_ok-rows.ensures.ok c.in_ok-values.ensures.items (c.in_ok-values.ensures.whole ∙ (c.len.ensures ∙ ap length c.deref.ensures))
    (c.fields.ensures.value ∙ c.deref-2.ensures) wrapper
    (ap (λ (b : Batch). b.rows) c.under.ensures) (ap (λ (b : Batch). b.columns) c.under.ensures)
