use Rattle.std.proofs.Common.{◌≡◌, map, take}
use Rattle.types.specs.Shape.{fields_of}
use Rattle.query.specs.Resolved.{place_in}
use Rattle.query.proofs.positions.placed_keys.Given as goal

-- the keys so far
abbrev pub invariant-loop-name : goal.invariant-loop-name
invariant-loop-name l = l.keys.items ≡ map (place_in (fields_of l.fields)) (take l.name-index l.names)
