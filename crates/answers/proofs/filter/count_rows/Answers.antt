use Rattle.answers.proofs.RunLemmas.{length-kept}
use Rattle.answers.proofs.filter.count_rows.Goals as goal

pub returns-in-None : goal.returns-in-None
returns-in-None c = λ start. length-kept c.args.values.now start c.args.len c.in-None.is
