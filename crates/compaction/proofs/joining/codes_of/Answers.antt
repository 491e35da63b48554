use Rattle.select.specs.Joined.{IsEncoded}
use Rattle.select.proofs.JoinLemmas.{All-more}
use Rattle.select.proofs.JoinedCodes.{encoded-is}
use Rattle.compaction.proofs.JoiningLemmas.{codes-more}
use Rattle.compaction.proofs.joining.codes_of.Goals as goal

pub loop-view-preserved : goal.loop-view-preserved
loop-view-preserved c =
    let views = c.args.views.now in
    let k = c.loop-view.view-index in
    let s = c.view-item.result in
    record {
      codes = codes-more views k s c.codes.result c.loop-view.codes.items c.push.new.self.items c.loop-view-test.true c.view-item.is c.codes.ensures.value c.loop-view.invariant.codes c.in_ok-push.ensures.items;
      encoded = All-more IsEncoded views k s c.loop-view-test.true c.view-item.is c.loop-view.invariant.encoded (encoded-is s c.codes.ensures.items c.codes.ensures.within);
    }
