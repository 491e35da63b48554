use Rattle.compaction.proofs.JoiningLemmas.{memory-only, no-fault}
use Rattle.compaction.proofs.joining.joined_views.Goals as goal

pub unreachable-requires : goal.unreachable-requires
unreachable-requires c =
    let none = no-fault c.args.views.now c.requires.kinds in
    c.in_default.not-NoMemory (memory-only _ _ c.in-Err.fault none c.requires.fits c.in-Err.ensures.err)
