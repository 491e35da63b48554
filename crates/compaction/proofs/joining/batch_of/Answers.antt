use Rattle.std.proofs.Common.{◌∙◌, ap, arith, map, option_map}
use Rattle.std.specs.Arc.{arc_value}
use Rattle.arrays.specs.Batch.{rows_of}
use Rattle.compaction.specs.Under.{IsUnder}
use Rattle.compaction.proofs.FrontLemmas.{batch-at}
use Rattle.compaction.proofs.joining.batch_of.Goals as goal

pub joined-requires-clause-under : goal.joined-requires-clause-under
joined-requires-clause-under c = c.requires.under

pub returns-in_ok-new-in_default-clause-rows : goal.returns-in_ok-new-in_default-clause-rows
returns-in_ok-new-in_default-clause-rows c = ap rows_of c.in_ok-new-in_default.ensures.ok ∙ c.in_ok-joined-in_default.ensures.rows

pub with_dictionaries-requires-clause-under : goal.with_dictionaries-requires-clause-under
with_dictionaries-requires-clause-under c =
    batch-at (IsUnder (arc_value c.args.schema.now) (map (option_map arc_value) c.args.dictionaries.now)) c.args.batches.now 0 c.only-item.result (omega (arith, c.in-len1.len_at_least)) c.only-item.is c.requires.under
