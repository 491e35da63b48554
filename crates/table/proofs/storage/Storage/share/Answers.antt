use Rattle.std.proofs.Common.{◌∙◌, ap, map, sym}
use Rattle.std.specs.Arc.{arc_value}
use Rattle.compaction.specs.Under.{pieces_of}
use Rattle.table.proofs.PutLemmas.{if-ok, with-same}
use Rattle.table.specs.declared.storage.Storage.{Storage}
use Rattle.std.specs.declared.alloc.Global.{Global}
use Rattle.std.specs.declared.vec.Vec.{Vec}
use Rattle.std.proofs.lemmas.Simd.{map-map}
use Rattle.answers.specs.Prelude.{ColumnStats}
use Rattle.table.proofs.storage.Storage.share.Goals as goal

pub returns : goal.returns
returns c =
    let storage = c.args.self.now in
    let pieces = c.in_ok-batch_stats.batch_stats in
    if-ok
    (λ (h : Storage) is.
    with-same storage h c.in_ok-batches.batches.items pieces
    (c.in_ok-batches.ensures ∙ ap (map arc_value) c.deref.ensures.value)
    (ap pieces_of c.in_ok-batch_stats.ensures)
    is)
    c.with_batches.result c.with_batches.ensures
