use Rattle.std.proofs.Common.{All, subst}
use Rattle.json_laws.specs.IsFile.{IsShown}
use Rattle.json_laws.proofs.WholeTables.{table_present}
use Rattle.json_laws.proofs.whole.tell_batch.Goals as goal

pub returns : goal.returns
returns c = table_present c.args.batch.now c.columns.ensures.lawful (subst (All IsShown) c.columns.ensures.value c.tell_columns.ensures)
