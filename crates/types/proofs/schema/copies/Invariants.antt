use Rattle.std.proofs.Common.{◌≡◌, take}
use Rattle.types.specs.Shape.{fields_of}
use Rattle.types.proofs.schema.copies.Given as goal

-- the fields so far have their copies
abbrev pub invariant-loop-field : goal.invariant-loop-field
invariant-loop-field l = fields_of l.copied.items ≡ fields_of (take l.field-index l.fields)
