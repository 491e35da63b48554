use Rattle.std.proofs.Common.{map}
use Rattle.embed.specs.Output.{IsAnswered, StopsQuery}
use Rattle.selqumar.proofs.StatusLemmas.{leaves-answer}
use Rattle.selqumar.proofs.selqumar_query.Goals as goal

pub returns-clause-leaves : goal.returns-clause-leaves
returns-clause-leaves c =
    let texts = map (λ f. f.now) c.args.files.now in
    leaves-answer c.query.result (IsAnswered c.args.query.now texts) (StopsQuery c.args.query.now texts) c.query.ensures.ok c.query.ensures.err _ _ _ _ _ c.put.ensures.leaves
