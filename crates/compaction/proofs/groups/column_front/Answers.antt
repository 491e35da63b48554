use Rattle.std.proofs.Common.{◌∙◌, ap, arith, get_or}
use Rattle.arrays.specs.Batch.{Batch}
use Rattle.compaction.specs.Sizes.{levels}
use Rattle.compaction.proofs.FrontLemmas.{kind-read, level-end, level-more, tables_of}
use Rattle.compaction.proofs.groups.column_front.Goals as goal

pub loop-level-preserved : goal.loop-level-preserved
loop-level-preserved c = record {
  some = c.level_front-len.ensures.some;
  within = omega (arith, c.level_front-len.ensures.within, c.loop-level.invariant.within);
  longest =
      λ k all.
      level-more k c.args.column c.loop-level.level c.args.most c.loop-level.len c.level_front-len.result (tables_of c.args.batches.now) (c.loop-level.invariant.longest k all)
      (c.level_front-len.ensures.longest k all);
}

pub returns : goal.returns
returns c k all =
    let column = c.column_of.result in
    let kind =
    kind-read k c.args.column 0 c.args.batches.now c.index-batches-0.result column (omega (arith, c.requires.some, c.requires.within)) c.index-batches-0.is
    (c.column_of.ensures.column ∙ ap (λ (b : Batch). get_or b.columns c.args.column column) c.deref.ensures) all in
    level-end k c.args.column c.loop-level.level c.args.most c.loop-level.len (tables_of c.args.batches.now)
    (omega (arith, c.loop-level.auto.level-end, c.loop-level-test.false, c.levels-level-end.ensures.count ∙ ap levels kind))
    (c.loop-level.invariant.longest k all)
