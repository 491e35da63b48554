use Rattle.std.proofs.Common.{◌+◌, ◌*◌}
use Rattle.answers.proofs.telling.+telling.Given as goal

abbrev pub decreases-tell_groups : goal.decreases-tell_groups
decreases-tell_groups g l = 2 * l.parts

abbrev pub decreases-front : goal.decreases-front
decreases-front g l = 2 * l.more + 1

abbrev pub decreases-back : goal.decreases-back
decreases-back g l = 2 * l.fewer + 1
