use Rattle.json_read.proofs.JsonColumnFaults.{has_slots}
use Rattle.json_read.proofs.column.read_slots.Goals as goal

pub returns-clause-given : goal.returns-clause-given
returns-clause-given c =
    has_slots _ _ record { flags = c.in_ok-flags.flags; values = c.in_ok-values.values } c.in_ok-check_count.ensures.ok c.in_ok-flags.ensures.flags c.in_ok-flags.ensures.whole
    c.in_ok-values.ensures.items c.in_ok-values.ensures.whole
