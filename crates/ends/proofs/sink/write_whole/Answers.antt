-- What the sink took before the write and what it took then are a longer front of the text.
use Rattle.std.proofs.Common.{rules}
use Rattle.ends.proofs.Ends.{Appends-more}
use Rattle.ends.proofs.sink.write_whole.Goals as goal

pub loop-at-preserved : goal.loop-at-preserved
loop-at-preserved g c = record {
  within = search rules;
  taken = Appends-more _ _ _ _ _ _ c.loop-at.invariant.taken c.in_ok-at.ensures.bytes;
  count = search rules;
}
