use Rattle.std.proofs.Common.{◌∙◌, ◌<◌, arith, length, subst, sym}
use Rattle.arrays.specs.Batch.{Batch}
use Rattle.compaction.specs.Fronts.{IsLongest, fits_at}
use Rattle.compaction.proofs.FrontLemmas.{batch-at, level-stop, size-read, tables-none, tables_of}
use Rattle.compaction.proofs.groups.level_front.Goals as goal

pub loop-n-init : goal.loop-n-init
loop-n-init c = record { size = λ k all. tables-none c.args.batches.now k c.args.level c.args.column; few = omega arith }

pub column_of-requires : goal.column_of-requires
column_of-requires c =
    subst (λ (b : Batch). c.args.column < length b.columns) (sym c.deref.ensures)
    (batch-at (λ b. c.args.column < length b.columns) c.args.batches.now c.loop-n.n c.index-batches-n.result (omega (arith, c.loop-n-test.true, c.requires.within)) c.index-batches-n.is c.requires.wide)

pub returns-in-None-clause-longest : goal.returns-in-None-clause-longest
returns-in-None-clause-longest c k all =
    let batches = c.args.batches.now in
    let n = c.loop-n.n in
    let before = c.loop-n.invariant.size k all in
    let after =
    size-read k c.args.column c.args.level n batches c.index-batches-n.result c.deref.result.now c.column_of.result c.loop-n.size (omega (arith, c.loop-n-test.true, c.requires.within)) c.index-batches-n.is
    c.deref.ensures c.column_of.ensures.column c.column_of.ensures.items all before in
    subst (λ m. IsLongest (fits_at k c.args.column c.args.level) c.args.most m (tables_of batches)) (sym c.max.ensures)
    (level-stop k c.args.column c.args.level n c.args.most c.loop-n.size _ batches c.loop-n-test.true before c.loop-n.invariant.few after c.in-None.ensures.none)

pub loop-n-preserved : goal.loop-n-preserved
loop-n-preserved c =
    record {
      size =
          λ k all.
          c.in-Some.ensures.some.0
          ∙ size-read k c.args.column c.args.level c.loop-n.n c.args.batches.now c.index-batches-n.result c.deref.result.now c.column_of.result c.loop-n.size
          (omega (arith, c.loop-n-test.true, c.requires.within)) c.index-batches-n.is c.deref.ensures c.column_of.ensures.column c.column_of.ensures.items all (c.loop-n.invariant.size k all);
      few = c.in-Some.ensures.some.1;
    }
