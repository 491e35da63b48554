use Rattle.std.proofs.Common.{◌∙◌}
use Rattle.layout.proofs.FirstFaultLemmas.{own_fault-of_shape, own_fault-of_content}
use Rattle.layout.proofs.validator.own_fault.Goals as goal

pub returns-in-Some : goal.returns-in-Some
returns-in-Some c = own_fault-of_shape c.args.raw.now c.in-Some.fault c.in-Some.ensures

pub returns : goal.returns
returns c = c.content_fault.ensures ∙ own_fault-of_content c.args.raw.now c.in_default.ensures
