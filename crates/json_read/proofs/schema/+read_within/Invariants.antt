use Rattle.std.proofs.Common.{◌-◌}
use Rattle.json_read.proofs.schema.+read_within.Given as goal

-- how many lists may still follow
abbrev pub decreases-read_within : goal.decreases-read_within
decreases-read_within l = 8 - l.within
