use Rattle.std.proofs.Common.{sym}
use Rattle.json_read.specs.JsonDictionary.{wrapped}
use Rattle.json_read.proofs.dictionary.read_wrapper.Goals as goal

pub returns-in-Ok-clause-ok : goal.returns-in-Ok-clause-ok
returns-in-Ok-clause-ok c = wrapped _ (sym c.in-Some.ensures) c.in-Ok.ensures.ok
