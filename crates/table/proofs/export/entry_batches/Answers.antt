use Rattle.std.proofs.Common.{◌∙◌, ◌∷◌, ◌++◌, [], All, List, ap, arith, map, subst, sym}
use Rattle.std.proofs.lemmas.List.{map-append}
use Rattle.std.proofs.lemmas.List.Elements.{All-push}
use Rattle.std.specs.Arc.{arc_value}
use Rattle.arrays.specs.Batch.{Table, rows_of}
use Rattle.table.specs.Prelude.{IsUnder, show}
use Rattle.table.proofs.ExportLemmas.{Shared, lies, tables-all}
use Rattle.table.proofs.export.entry_batches.Goals as goal

pub part_of-requires : goal.part_of-requires
part_of-requires c =
    let h = c.args.storage.now in
    let k = c.loop-i.i in
    let p = c.in_batch-batch.result in
    let found = c.in_batch-batch.ensures in
    let here =
    lies h c.requires k c.deref.result.now c.get-rows.result c.loop-i.place p c.index.result.now c.deref.ensures.value c.get-rows.ensures c.loop-i.invariant.behind found.same found.place found.within found.left c.index.ensures in
    record { fields = here.under.0; within = here.fits }

pub overflow_add-place : goal.overflow_add-place
overflow_add-place c =
    let h = c.args.storage.now in
    let k = c.loop-i.i in
    let p = c.in_batch-batch.result in
    let found = c.in_batch-batch.ensures in
    let here =
    lies h c.requires k c.deref.result.now c.get-rows.result c.loop-i.place p c.index.result.now c.deref.ensures.value c.get-rows.ensures c.loop-i.invariant.behind found.same found.place found.within found.left c.index.ensures in
    omega (arith, here.fits, here.small)

pub loop-i-preserved : goal.loop-i-preserved
loop-i-preserved c =
    let h = c.args.storage.now in
    let k = c.loop-i.i in
    let p = c.in_batch-batch.result in
    let found = c.in_batch-batch.ensures in
    let here =
    lies h c.requires k c.deref.result.now c.get-rows.result c.loop-i.place p c.index.result.now c.deref.ensures.value c.get-rows.ensures c.loop-i.invariant.behind found.same found.place found.within found.left c.index.ensures in
    let old = c.loop-i.batches.items in
    let part = c.in_ok-part_of.field-0 in
    let rows = λ (b : Shared). rows_of (arc_value b) in
    let IsOne = λ (b : Shared). IsUnder (show h).fields (arc_value b) in record {
      rows = ap (map rows) c.in_ok-push.ensures.items
          ∙ map-append rows old (part ∷ [])
          ∙ ap (λ (l : List Table). l ++ rows_of (arc_value part) ∷ []) c.loop-i.invariant.rows
          ∙ sym (here.table (rows_of (arc_value part)) c.in_ok-part_of.ensures.rows);
      under = subst (All IsOne) (sym c.in_ok-push.ensures.items) (All-push IsOne old part c.loop-i.invariant.under (c.in_ok-part_of.ensures.fields ∙ here.under.0, c.in_ok-part_of.ensures.lawful));
      behind = here.behind;
      place = here.place;
      within = omega (arith, here.within);
    }

pub returns-clause-tables : goal.returns-clause-tables
returns-clause-tables c =
    c.loop-i.invariant.rows
    ∙ tables-all c.args.storage.now c.loop-i.i (omega (arith, c.loop-i-test.false, c.len.ensures))
