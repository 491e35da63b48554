use Rattle.json_read.specs.PlaceParts.{ArePlaces}
use Rattle.json_read.proofs.place.places_of.Given as goal

-- the places among the numbers so far
abbrev pub invariant-loop-index : goal.invariant-loop-index
invariant-loop-index l = ArePlaces l.ids l.index l.places
