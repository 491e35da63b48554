use Rattle.std.proofs.Common.{◌∙◌, ◌+◌, ◌∷◌, [], ap, refl}
use Rattle.std.specs.Arc.{arc_value}
use Rattle.std.specs.declared.alloc.Global.{Global}
use Rattle.std.specs.declared.sync.Arc.{Arc}
use Rattle.std.proofs.lemmas.List.{map-append}
use Rattle.std.specs.declared.vec.Vec.{Vec}
use Rattle.arrays.specs.Batch.{Batch}
use Rattle.compaction.specs.Under.{pieces_of}
use Rattle.answers.specs.Prelude.{ColumnStats}
use Rattle.table.proofs.MovedLemmas.{put-last}
use Rattle.table.proofs.storage.Storage.put_in.Goals as goal

pub returns : goal.returns
returns c =
    let h = c.args.self.now in
    let new = c.args.addition in
    let rows = c.from.ensures ∙ c.rows-rows.ensures ∙ ap (λ (b : Batch). b.rows) c.deref.ensures in
    record {
      schema = refl;
      rows = ap (λ n. h.rows + n) rows;
      batches = put-last (λ (b : Arc Batch Global). arc_value b) h.batches.items new.moved.items c.put_last.new.values.items c.push_reserved.new.self.items new.batch c.put_last.ensures.values c.push_reserved.ensures.items;
      pieces = refl;
      stats = refl;
      dictionaries = refl;
      book = refl;
    }
