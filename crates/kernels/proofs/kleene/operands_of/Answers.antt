use Rattle.std.proofs.Common.{◌∙◌, sym}
use Rattle.kernels.proofs.KleeneLemmas.{kinds-from_no_fault}
use Rattle.kernels.proofs.kleene.operands_of.Goals as goal

pub of-requires : goal.of-requires
of-requires c = (kinds-from_no_fault c.args.a.now c.args.b.now (sym c.fault_of.ensures ∙ c.in-None.is)).0

pub of-requires-in-None : goal.of-requires-in-None
of-requires-in-None c = (kinds-from_no_fault c.args.a.now c.args.b.now (sym c.fault_of.ensures ∙ c.in-None.is)).1
