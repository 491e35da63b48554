use Rattle.std.proofs.Common.{refl, rules}
use Rattle.json_stream.proofs.column.member_stretch.Goals as goal

pub returns-then-ends_in-clause-stands : goal.returns-then-ends_in-clause-stands
returns-then-ends_in-clause-stands c = λ d spelled. (d, refl, spelled, search rules)
