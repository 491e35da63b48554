use Rattle.std.proofs.Common.{rules, arith}
use Rattle.std.proofs.lemmas.Grind.{common_steps}
use Rattle.json.specs.Word.{after_number}
use Rattle.json_scan.proofs.number.number_end.Goals as goal

pub returns-clause-part : goal.returns-clause-part
unfolding after_number
returns-clause-part c = first_of (search rules, grind (arith, common_steps))
