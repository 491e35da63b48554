use Rattle.json_read.proofs.JsonDictionaries.{texts_column}
use Rattle.json_read.proofs.dictionary.read_batch_of_texts.Goals as goal

pub returns-in-Err-clause-err : goal.returns-in-Err-clause-err
returns-in-Err-clause-err c = texts_column _ _ _ _ _ _ c.in-Err.ensures.err c.in_ok-rows.ensures.ok c.in_ok-column.ensures.single c.under-item.ensures c.under.ensures
