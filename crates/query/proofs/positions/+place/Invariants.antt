use Rattle.std.proofs.Common.{◌≡◌, map, take}
use Rattle.types.specs.Shape.{fields_of}
use Rattle.query.specs.Prelude.{place_in, renamed, tree_of}
use Rattle.query.proofs.positions.+place.Given as goal

-- the operands so far
abbrev pub invariant-all_placed-loop-operand : goal.invariant-all_placed-loop-operand
invariant-all_placed-loop-operand l =
    map tree_of l.placed_operands.items ≡ map (renamed (place_in (fields_of l.fields))) (map tree_of (take l.operand-index l.operands))
