use Rattle.std.proofs.Common.{subst}
use Rattle.json_laws.specs.IsFile.{IsShown}
use Rattle.json_laws.proofs.WholeTables.{all_reported, present_by, one_more}
use Rattle.json_laws.proofs.whole.tell_columns.Goals as goal

pub loop-column-preserved : goal.loop-column-preserved
loop-column-preserved c =
    one_more IsShown c.args.columns.now c.loop-column.column-index c.column-item.result c.loop-column-test.true c.column-item.is c.loop-column.invariant
    (subst IsShown c.view.ensures (present_by c.view.result c.tell_items.ensures.typed c.tell_items.ensures.few))

pub returns : goal.returns
returns c = all_reported IsShown c.args.columns.now c.loop-column.column-index c.loop-column-test.false c.loop-column.invariant
