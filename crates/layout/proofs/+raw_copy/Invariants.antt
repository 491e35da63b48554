use Rattle.std.proofs.Common.{◌≡◌, map, take}
use Rattle.layout.specs.Reading.{reading}
use Rattle.layout.proofs.+raw_copy.Given as goal

-- the children so far have their copies
abbrev pub invariant-copies::children-loop-child : goal.invariant-copies::children-loop-child
invariant-copies::children-loop-child l = map reading l.copied.items ≡ map reading (take l.child-index l.children)
