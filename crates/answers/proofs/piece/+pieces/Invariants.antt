use Rattle.std.proofs.Common.{◌+◌, ◌*◌}
use Rattle.answers.proofs.piece.+pieces.Given as goal

abbrev pub decreases-look_at_pieces : goal.decreases-look_at_pieces
decreases-look_at_pieces g l = 2 * l.count

abbrev pub decreases-front : goal.decreases-front
decreases-front g l = 2 * l.low + 1

abbrev pub decreases-back : goal.decreases-back
decreases-back g l = 2 * l.high + 1
