use Rattle.json_read.proofs.JsonLists.{has_lists}
use Rattle.json_read.proofs.list.read_parts.Goals as goal

pub returns-clause-given : goal.returns-clause-given
returns-clause-given c =
    has_lists _ _ record { flags = c.in_ok-flags.flags; offsets = c.in_ok-offsets.offsets; child = c.in_ok-child.child } c.in_ok-check_count.ensures.ok c.in_ok-flags.ensures.flags
    c.in_ok-flags.ensures.whole c.in_ok-offsets.ensures.items c.in_ok-offsets.ensures.enough c.in_ok-child.ensures.single
