use Rattle.std.proofs.Common.{List, ap, arith, length, subst, sym, take, ◌+◌}
use Rattle.std.specs.List.{AllZip}
use Rattle.std.proofs.lemmas.Option.{get_or_from_slice_get}
use Rattle.std.proofs.lemmas.List.Elements.{all_zip_more}
use Rattle.table.proofs.chunks.Chunks.to_vec.Goals as goal

pub loop-i-preserved : goal.loop-i-preserved
loop-i-preserved g c =
    subst (λ (l : List g.row.T.Denot). AllZip g.T.Clone.is_clone (take (c.loop-i.i + 1) c.args.self.now) l) (sym c.in_ok-push.ensures.items)
    (all_zip_more g.T.Clone.is_clone c.args.self.now c.loop-i.all.items c.loop-i.i c.get.result.now c.in_ok-clone.field-0 (omega (arith, c.loop-i-test.true, c.self.invariant.count, ap (λ (l : List g.row.T.Denot). length l) c.self.view_is)) (sym (get_or_from_slice_get c.args.self.now c.loop-i.i c.get.result.now c.get.result.now c.get.ensures)) c.loop-i.invariant c.in_ok-clone.ensures.cases)
