use Rattle.std.proofs.Common.{◌≡◌, map, take}
use Rattle.results.specs.Types.{type_at}
use Rattle.results.proofs.result_type.types_of_keys.Given as goal

abbrev pub invariant-loop-place : goal.invariant-loop-place
invariant-loop-place l = l.types.items ≡ map (type_at l.schema) (take l.place-index l.places)
