use Rattle.std.proofs.Common.{append_assoc}
use Rattle.reports.proofs.refusal.refusal_text.Goals as goal

pub returns-in_ok-format-in-NullInNonNullable : goal.returns-in_ok-format-in-NullInNonNullable
returns-in_ok-format-in-NullInNonNullable c = rw (c.in-NullInNonNullable.is, append_assoc) c.in_ok-format-in-NullInNonNullable.ensures.ok
