use Rattle.std.proofs.Common.{◌∙◌, map, ap}
use Rattle.layout.specs.Reading.{child_fault, reading}
use Rattle.layout.proofs.FirstFaultLemmas.{fault-of_own, fault-of_child, fault-of_dictionary}
use Rattle.layout.proofs.validator.+first_fault.Goals as goal

pub first_fault-returns-in-Some : goal.first_fault-returns-in-Some
first_fault-returns-in-Some t c = fault-of_own c.args.raw.now c.in-Some.fault c.in-Some.ensures

pub first_fault-returns-in-Some-child_fault : goal.first_fault-returns-in-Some-child_fault
first_fault-returns-in-Some-child_fault t c =
    fault-of_child c.args.raw.now c.in-Some-child_fault.fault c.in_default.ensures
    (c.in-Some-child_fault.ensures ∙ ap (λ xs. child_fault (map reading xs)) c.deref.ensures.value)

pub first_fault-returns : goal.first_fault-returns
first_fault-returns t c =
    c.dictionary_fault.ensures
    ∙ fault-of_dictionary c.args.raw.now c.in_default.ensures
    (c.in_default-child_fault.ensures ∙ ap (λ xs. child_fault (map reading xs)) c.deref.ensures.value)
