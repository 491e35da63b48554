use Rattle.std.proofs.Common.{Err, map}
use Rattle.embed.specs.Refused.{StopsTexts}
use Rattle.selqumar.specs.Status.{IsNothing}
use Rattle.selqumar.proofs.StatusLemmas.{leaves-answer}
use Rattle.selqumar.proofs.opened.selqumar_open.Goals as goal

pub returns-in-Err-clause-leaves : goal.returns-in-Err-clause-leaves
returns-in-Err-clause-leaves c =
    leaves-answer (Err c.in-Err.fault) IsNothing (StopsTexts (map (λ f. f.now) c.args.files.now)) tt c.in-Err.ensures.err _ _ _ _ _ c.put.ensures.leaves
