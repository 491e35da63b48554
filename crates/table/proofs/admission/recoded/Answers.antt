use Rattle.std.proofs.Common.{◌≡◌, ◌∙◌, ◌∷◌, ◌++◌, [], List, All, Option, length, ap, subst, sym, map, option_map}
use Rattle.std.specs.Arc.{arc_value}
use Rattle.std.specs.List.{AllZip}
use Rattle.std.specs.declared.alloc.Global.{Global}
use Rattle.std.specs.declared.sync.Arc.{Arc}
use Rattle.std.specs.declared.vec.Vec.{Vec}
use Rattle.arrays.specs.Prelude.{Batch, FieldShape, IsItemOf, Seen, batch_fault}
use Rattle.answers.specs.Prelude.{AreJoined, ColumnStats}
use Rattle.table.specs.Prelude.{AreMoved, batch_cause, batches_of, book_of, full_cause, show}
use Rattle.compaction.specs.Under.{IsDictionary, IsUnder}
use Rattle.table.proofs.ChunksLemmas.{copies-pushed}
use Rattle.table.proofs.KeptLemmas.{IsFew}
use Rattle.table.proofs.StorageLemmas.{few-pieces}
use Rattle.table.proofs.ReadyLemmas.{reported, full-batch, pools-count, pools-dictionaries, pools-grown, ready, stats-count, stats-few, stored-lawful, words-dictionaries, words-under}
use Rattle.table.proofs.admission.recoded.Goals as goal

pub stored_columns-requires-clause-count : goal.stored_columns-requires-clause-count
stored_columns-requires-clause-count c =
    pools-count c.args.storage.now c.args.batch.now c.requires.storage c.requires.allowed c.columns.ensures.lawful
    (subst (All (λ (d : Seen). All (IsItemOf d.kind) d.items)) c.columns.ensures.value c.tell_all.ensures)
    c.args.pools.now.items c.requires.pools c.columns-2.result.now c.columns-2.ensures.value

pub stored_columns-requires-clause-dictionaries : goal.stored_columns-requires-clause-dictionaries
stored_columns-requires-clause-dictionaries c =
    ap (map (option_map arc_value)) c.deref.ensures.value
    ∙ pools-dictionaries c.args.storage.now c.args.batch.now c.requires.storage c.requires.allowed c.columns.ensures.lawful
    (subst (All (λ (d : Seen). All (IsItemOf d.kind) d.items)) c.columns.ensures.value c.tell_all.ensures)
    c.args.pools.now.items c.requires.pools c.columns-2.result.now c.columns-2.ensures.value

pub returns-in_err-columns-clause-err : goal.returns-in_err-columns-clause-err
returns-in_err-columns-clause-err c =
    reported c.from_residual.result c.in_err-columns.field-0.0 (full_cause c.args.pools.now.items c.columns-2.result.now)
    (batch_cause (arc_value c.args.storage.now.schema) (show c.args.storage.now).history c.args.batch.now) c.from_residual.ensures.1 c.in_err-columns.ensures.err
    (full-batch c.args.storage.now c.args.batch.now c.requires.storage c.requires.allowed c.columns.ensures.lawful
    (subst (All (λ (d : Seen). All (IsItemOf d.kind) d.items)) c.columns.ensures.value c.tell_all.ensures)
    c.args.pools.now.items c.requires.pools c.columns-2.result.now c.columns-2.ensures.value)

pub joined_all-requires-clause-count : goal.joined_all-requires-clause-count
joined_all-requires-clause-count c =
    ap (λ (l : List ColumnStats). length l) (c.deref-5.ensures.value ∙ ap (λ (v : Vec ColumnStats Global). v.items) c.deref-4.ensures)
    ∙ stats-count c.args.storage.now c.args.batch.now c.requires.storage c.requires.allowed c.columns.ensures.lawful
    (subst (All (λ (d : Seen). All (IsItemOf d.kind) d.items)) c.columns.ensures.value c.tell_all.ensures)
    c.args.pools.now.items c.requires.pools c.columns-2.result.now c.columns-2.ensures.value
    (arc_value c.args.batch_stats).items c.requires.stats
    ∙ ap (λ (v : Vec ColumnStats Global). length v.items) (sym c.deref-2.ensures)
    ∙ ap (λ (l : List ColumnStats). length l) (sym c.deref-3.ensures.value)

pub joined_all-requires-clause-few : goal.joined_all-requires-clause-few
joined_all-requires-clause-few c =
    subst (λ (l : List ColumnStats). AllZip IsFew l c.deref-5.result.now) (ap (λ (v : Vec ColumnStats Global). v.items) (sym c.deref-2.ensures) ∙ sym c.deref-3.ensures.value)
    (subst (λ (l : List ColumnStats). AllZip IsFew (arc_value c.args.storage.now.stats).items l) (ap (λ (v : Vec ColumnStats Global). v.items) (sym c.deref-4.ensures) ∙ sym c.deref-5.ensures.value)
    (stats-few c.args.storage.now c.args.batch.now c.requires.storage c.requires.allowed c.columns.ensures.lawful
    (subst (All (λ (d : Seen). All (IsItemOf d.kind) d.items)) c.columns.ensures.value c.tell_all.ensures)
    c.args.pools.now.items c.requires.pools c.columns-2.result.now c.columns-2.ensures.value
    (arc_value c.args.batch_stats).items c.requires.stats))

pub with-requires : goal.with-requires
with-requires c = few-pieces c.args.storage.now c.requires.storage

pub moved-requires-clause-dictionaries : goal.moved-requires-clause-dictionaries
moved-requires-clause-dictionaries c =
    subst (λ (l : List (Option (Arc Seen Global))). AllZip IsDictionary (arc_value c.args.storage.now.schema) (map (option_map arc_value) l)) (sym c.deref-6.ensures.value)
    (words-dictionaries c.args.storage.now c.args.batch.now c.requires.storage c.requires.allowed c.columns.ensures.lawful
    (subst (All (λ (d : Seen). All (IsItemOf d.kind) d.items)) c.columns.ensures.value c.tell_all.ensures)
    c.args.pools.now.items c.requires.pools c.columns-2.result.now c.columns-2.ensures.value
    (map (option_map arc_value) c.in_ok-columns.field-0.dictionaries.items) c.in_ok-columns.ensures.dictionaries)

pub moved-requires-clause-under : goal.moved-requires-clause-under
moved-requires-clause-under c =
    subst (λ (l : List (Option (Arc Seen Global))). All (IsUnder (arc_value c.args.storage.now.schema) (map (option_map arc_value) l)) (batches_of c.args.storage.now)) (sym c.deref-6.ensures.value)
    (words-under c.args.storage.now c.args.batch.now c.requires.storage c.requires.allowed c.columns.ensures.lawful
    (subst (All (λ (d : Seen). All (IsItemOf d.kind) d.items)) c.columns.ensures.value c.tell_all.ensures)
    c.args.pools.now.items c.requires.pools c.columns-2.result.now c.columns-2.ensures.value
    (map (option_map arc_value) c.in_ok-columns.field-0.dictionaries.items) c.in_ok-columns.ensures.dictionaries)

pub under-batch-requires : goal.under-batch-requires
under-batch-requires c =
    let columns = c.in_ok-columns.field-0.columns.items in
    ap (λ (f : List FieldShape). batch_fault f c.rows-rows.result columns) c.in_ok-clone.ensures.cases
    ∙ ap (λ n. batch_fault (arc_value c.args.storage.now.schema) n columns) c.rows-rows.ensures
    ∙ ap (λ (l : List Seen). batch_fault (arc_value c.args.storage.now.schema) c.args.batch.now.rows l) c.in_ok-columns.ensures.columns
    ∙ stored-lawful c.args.storage.now c.args.batch.now c.requires.storage c.requires.allowed c.columns.ensures.lawful
    (subst (All (λ (d : Seen). All (IsItemOf d.kind) d.items)) c.columns.ensures.value c.tell_all.ensures)
    c.args.pools.now.items c.requires.pools c.columns-2.result.now c.columns-2.ensures.value

pub returns-clause-ok : goal.returns-clause-ok
returns-clause-ok c =
    let batch = c.in_ok-new.ensures.ok ∙ c.under-batch.ensures in
    ready c.args.storage.now c.args.batch.now c.requires.storage c.requires.allowed c.columns.ensures.lawful
    (subst (All (λ (d : Seen). All (IsItemOf d.kind) d.items)) c.columns.ensures.value c.tell_all.ensures)
    c.args.pools.now.items c.requires.pools c.columns-2.result.now c.columns-2.ensures.value
    c.args.worker
    (record { batch = c.in_ok-new.field-0; batch_stats = c.in_ok-batch_stats.batch_stats; stats = c.in_ok-new-2.field-0; dictionaries = c.in_ok-columns.field-0.dictionaries; moved = c.in_ok-moved.moved; book = c.in_ok-book.book })
    (arc_value c.args.batch_stats).items
    c.in_ok-columns.ensures.fits
    (ap (λ (b : Batch). b.fields) batch ∙ c.in_ok-clone.ensures.cases)
    (ap (λ (b : Batch). b.rows) batch ∙ c.rows-rows.ensures)
    (ap (λ (b : Batch). b.columns) batch ∙ c.in_ok-columns.ensures.columns)
    c.in_ok-columns.ensures.dictionaries
    (copies-pushed (λ (x y : Arc (Vec ColumnStats Global) Global). arc_value y ≡ arc_value x) (λ (s : Arc (Vec ColumnStats Global) Global). (arc_value s).items) (λ x y k. ap (λ (v : Vec ColumnStats Global). v.items) k)
    c.args.storage.now.batch_stats c.in_ok-batch_stats.batch_stats c.args.batch_stats c.in_ok-batch_stats.ensures)
    c.requires.stats
    (subst (λ (v : Vec ColumnStats Global). AreJoined (arc_value c.args.storage.now.stats).items (arc_value c.args.batch_stats).items v.items) (sym c.in_ok-new-2.ensures.ok)
    (subst (λ (l : List ColumnStats). AreJoined (arc_value c.args.storage.now.stats).items l c.in_ok-stats.stats.items) (c.deref-5.ensures.value ∙ ap (λ (v : Vec ColumnStats Global). v.items) c.deref-4.ensures)
    (subst (λ (l : List ColumnStats). AreJoined l c.deref-5.result.now c.in_ok-stats.stats.items)
    (c.deref-3.ensures.value ∙ ap (λ (v : Vec ColumnStats Global). v.items) c.deref-2.ensures) c.in_ok-stats.ensures)))
    (subst (λ (l : List (Option (Arc Seen Global))). AreMoved (arc_value c.args.storage.now.schema) (map (option_map arc_value) l) (batches_of c.args.storage.now) (map arc_value c.in_ok-moved.moved.items)) c.deref-6.ensures.value c.in_ok-moved.ensures)
    (c.in_ok-book.ensures ∙ ap (λ n. book_of c.args.storage.now ++ (c.args.worker, n) ∷ []) c.rows-rows.ensures)

pub returns-clause-pools : goal.returns-clause-pools
returns-clause-pools c = c.in_ok-columns.ensures.pools ∙ pools-grown c.args.storage.now c.args.batch.now c.requires.storage c.requires.allowed c.columns.ensures.lawful
    (subst (All (λ (d : Seen). All (IsItemOf d.kind) d.items)) c.columns.ensures.value c.tell_all.ensures)
    c.args.pools.now.items c.requires.pools c.columns-2.result.now c.columns-2.ensures.value
