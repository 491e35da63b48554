use Rattle.std.proofs.Common.{[], ap, arith, length, length-append}
use Rattle.json_base.specs.Prelude.{as_str}
use Rattle.json_base.specs.declared.fault.JsonFaultKind.TheVariants.{WrongMember}
use Rattle.json_query.specs.Prelude.{wanted}
use Rattle.json_query.proofs.Readings.{each_read, each_told}
use Rattle.json_query.proofs.lists.read_names.Goals as goal

pub loop-index-preserved : goal.loop-index-preserved
loop-index-preserved c = record {
  count = omega (arith, simp length-append at (ap length c.push.ensures.items));
  read = each_read (λ d. wanted WrongMember [] (as_str d)) _ _ c.args.values.now c.loop-index.index _ _ _ _ c.loop-index.invariant.read (omega arith) c.index-values-index.is c.in-Ok.ensures.ok c.push.ensures.items;
}

pub returns-in-Err-clause-err : goal.returns-in-Err-clause-err
returns-in-Err-clause-err c = each_told (λ d. wanted WrongMember [] (as_str d)) _ _ c.args.values.now c.loop-index.index _ _ _ c.loop-index.invariant.read c.in-Err.ensures.err (omega arith) c.index-values-index.is c.under.ensures
