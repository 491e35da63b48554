use Rattle.std.proofs.Common.{◌≡◌, map, take}
use Rattle.group.specs.Scalars.{item_of_scalar}
use Rattle.keys.specs.Prelude.{key_of_parts, named_texts}
use Rattle.keys.proofs.key_set.items_of.Given as goal

-- The items so far.
abbrev pub invariant-loop-part : goal.invariant-loop-part
invariant-loop-part l = map item_of_scalar l.items.items ≡ key_of_parts (named_texts l.texts) (take l.part-index l.parts)
