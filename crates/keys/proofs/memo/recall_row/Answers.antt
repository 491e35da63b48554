use Rattle.arrays.specs.Batch.{row_of}
use Rattle.keys.specs.Keys.{key_of}
use Rattle.keys.proofs.MemoLemmas.{recalled}
use Rattle.keys.proofs.memo.recall_row.Goals as goal

pub returns-in-Some : goal.returns-in-Some
returns-in-Some c = λ h. recalled c.args.keys.now (key_of c.args.columns.now.by.now (row_of c.args.columns.now.batch.now.columns c.args.row)) c.args.known.now c.in-Some.id c.in-Some.is h
