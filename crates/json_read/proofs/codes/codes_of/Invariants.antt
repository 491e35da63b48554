use Rattle.json_read.specs.Prelude.{HoldsCodes, flags_in, values_in}
use Rattle.json_read.proofs.codes.codes_of.Given as goal

-- the codes so far are read
abbrev pub invariant-loop-index : goal.invariant-loop-index
invariant-loop-index l = HoldsCodes l.ty l.texts.items (flags_in l.slots) (values_in l.slots) l.index l.builder
