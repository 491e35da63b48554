use Rattle.select.proofs.JoinLemmas.{pushed-more}
use Rattle.select.proofs.joining.bools.push_all.Goals as goal

pub loop-i-preserved : goal.loop-i-preserved
loop-i-preserved c =
    pushed-more c.args.view.now.items c.loop-i.i _ c.args.builder.now c.loop-i.builder c.push.new.self c.bool_at.ensures c.loop-i.invariant c.in_ok-push.ensures.ok
