use Rattle.std.proofs.Common.{◌∙◌, ap, map, option_map, refl}
use Rattle.std.specs.Arc.{arc_value}
use Rattle.std.specs.declared.alloc.Global.{Global}
use Rattle.std.specs.declared.vec.Vec.{Vec}
use Rattle.answers.specs.Prelude.{ColumnStats}
use Rattle.table.proofs.storage.Storage.with_batches.Goals as goal

pub returns : goal.returns
returns c = record {
  schema = c.in_ok-clone.ensures.cases;
  rows = refl;
  batches = refl;
  pieces = c.batch_stats.view_is;
  stats = ap (λ (v : Vec ColumnStats Global). v.items) c.in_ok-clone-2.ensures.cases;
  dictionaries = c.in_ok-dictionaries_shared.ensures ∙ ap (map (option_map arc_value)) c.deref.ensures.value;
  book = c.in_ok-share.ensures;
}
