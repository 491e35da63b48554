use Rattle.std.proofs.Common.{◌≡◌, All, List, Option, ap, map, option_map, subst, sym}
use Rattle.std.specs.Arc.{arc_value}
use Rattle.std.specs.List.{AllZip}
use Rattle.std.specs.declared.alloc.Global.{Global}
use Rattle.std.specs.declared.sync.Arc.{Arc}
use Rattle.std.specs.declared.vec.Vec.{Vec}
use Rattle.arrays.specs.Prelude.{Batch, Seen, rows_of}
use Rattle.answers.specs.Prelude.{ColumnStats}
use Rattle.compaction.specs.Prelude.{AreGroups, HaveStats, IsDictionary, IsUnder, pieces_of}
use Rattle.table.specs.Storage.{batches_of, dictionaries_in}
use Rattle.table.specs.declared.storage.Storage.{Storage}
use Rattle.table.proofs.ChunksLemmas.{images-same}
use Rattle.table.proofs.JoinedLemmas.{storage-dictionaries, storage-stats, storage-under, joined-storage, joined-shows}
use Rattle.table.proofs.PutLemmas.{if-ok}
use Rattle.table.proofs.joining.stage.Goals as goal

abbrev Dictionaries : Type 0
Dictionaries = List (Option (Arc Seen Global))

pub compact-requires-clause-dictionaries : goal.compact-requires-clause-dictionaries
compact-requires-clause-dictionaries c =
    subst (λ (l : Dictionaries). AllZip IsDictionary (arc_value c.args.storage.now.schema) (map (option_map arc_value) l)) (sym c.deref.ensures.value)
    (storage-dictionaries c.args.storage.now c.requires)

pub compact-requires-clause-under : goal.compact-requires-clause-under
compact-requires-clause-under c =
    subst (λ (l : Dictionaries). All (IsUnder (arc_value c.args.storage.now.schema) (map (option_map arc_value) l)) (map arc_value c.deref-2.result.now)) (sym c.deref.ensures.value)
    (subst (λ (l : List (Arc Batch Global)). All (IsUnder (arc_value c.args.storage.now.schema) (dictionaries_in c.args.storage.now)) (map arc_value l)) (sym c.deref-2.ensures.value)
    (storage-under c.args.storage.now c.requires))

pub compact-requires-clause-stats : goal.compact-requires-clause-stats
compact-requires-clause-stats c =
    subst (λ (l : List (Arc Batch Global)). HaveStats (map arc_value l) (pieces_of c.deref-3.result.now)) (sym c.deref-2.ensures.value)
    (subst (λ (l : List (Arc (Vec ColumnStats Global) Global)). HaveStats (batches_of c.args.storage.now) (pieces_of l)) (sym c.deref-3.ensures.value)
    (subst (HaveStats (batches_of c.args.storage.now))
    (sym (images-same (λ (x y : Arc (Vec ColumnStats Global) Global). arc_value y ≡ arc_value x) (λ (s : Arc (Vec ColumnStats Global) Global). (arc_value s).items) (λ x y k. ap (λ (v : Vec ColumnStats Global). v.items) k)
    c.args.storage.now.batch_stats c.in_ok-pieces.pieces.items c.in_ok-pieces.ensures))
    (storage-stats c.args.storage.now c.requires)))

pub returns-clause-lawful : goal.returns-clause-lawful
returns-clause-lawful c =
    let storage = c.args.storage.now in
    if-ok
    (λ (h : Storage) with.
    joined-storage storage h c.args.max_rows c.in_ok-compacted.compacted.batches.items c.in_ok-batch_stats.batch_stats c.requires with
    (subst (λ (l : List (Arc Batch Global)). AreGroups (arc_value c.args.storage.now.schema) c.args.max_rows (map rows_of (map arc_value l)) (map rows_of (map arc_value c.in_ok-compacted.compacted.batches.items))) c.deref-2.ensures.value c.in_ok-compacted.ensures.groups)
    (subst (λ (l : Dictionaries). All (IsUnder (arc_value c.args.storage.now.schema) (map (option_map arc_value) l)) (map arc_value c.in_ok-compacted.compacted.batches.items)) c.deref.ensures.value c.in_ok-compacted.ensures.under)
    (subst (λ (l : List (Arc (Vec ColumnStats Global) Global)). HaveStats (map arc_value c.in_ok-compacted.compacted.batches.items) (pieces_of l)) (sym c.in_ok-batch_stats.ensures) c.in_ok-compacted.ensures.stats))
    c.with_batches.result c.with_batches.ensures

pub returns-clause-compacted : goal.returns-clause-compacted
returns-clause-compacted c =
    let storage = c.args.storage.now in
    if-ok
    (λ (h : Storage) with.
    joined-shows storage h c.args.max_rows c.in_ok-compacted.compacted.batches.items c.in_ok-batch_stats.batch_stats c.requires with
    (subst (λ (l : List (Arc Batch Global)). AreGroups (arc_value c.args.storage.now.schema) c.args.max_rows (map rows_of (map arc_value l)) (map rows_of (map arc_value c.in_ok-compacted.compacted.batches.items))) c.deref-2.ensures.value c.in_ok-compacted.ensures.groups)
    (subst (λ (l : Dictionaries). All (IsUnder (arc_value c.args.storage.now.schema) (map (option_map arc_value) l)) (map arc_value c.in_ok-compacted.compacted.batches.items)) c.deref.ensures.value c.in_ok-compacted.ensures.under)
    (subst (λ (l : List (Arc (Vec ColumnStats Global) Global)). HaveStats (map arc_value c.in_ok-compacted.compacted.batches.items) (pieces_of l)) (sym c.in_ok-batch_stats.ensures) c.in_ok-compacted.ensures.stats))
    c.with_batches.result c.with_batches.ensures
