use Rattle.std.proofs.Common.{◌≡◌, ◌++◌, [], ◌∷◌, subst, sym}
use Rattle.std.specs.Arc.{arc_value}
use Rattle.std.specs.declared.alloc.Global.{Global}
use Rattle.std.specs.declared.sync.Arc.{Arc}
use Rattle.arrays.specs.Prelude.{Batch, field_of}
use Rattle.table.proofs.StorageLemmas.{all-of-map}
use Rattle.table.proofs.widening.wider_batches.Goals as goal

pub wider_batch-requires-clause-under : goal.wider_batch-requires-clause-under
wider_batch-requires-clause-under c =
    let under = λ (b : Batch). arc_value c.args.schema.now ≡ b.fields ++ field_of c.args.field.now ∷ [] in
    subst (λ (b : Batch). arc_value c.args.schema.now ≡ b.fields ++ field_of c.args.field.now ∷ []) (sym c.deref.ensures)
    (subst (λ (a : Arc Batch Global). arc_value c.args.schema.now ≡ (arc_value a).fields ++ field_of c.args.field.now ∷ []) (sym c.batch-item.is)
    (all-of-map under (λ (a : Arc Batch Global). arc_value a) c.args.batches.now c.requires.under c.loop-batch.batch-index c.batch-item.result c.loop-batch-test.true))
