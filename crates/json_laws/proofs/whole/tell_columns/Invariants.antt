use Rattle.std.proofs.Common.{All, take}
use Rattle.json_laws.specs.IsFile.{IsShown}
use Rattle.json_laws.proofs.whole.tell_columns.Given as goal

abbrev pub invariant-loop-column : goal.invariant-loop-column
invariant-loop-column l = All IsShown (take l.column-index l.columns)
