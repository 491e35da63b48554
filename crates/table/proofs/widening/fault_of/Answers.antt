use Rattle.std.proofs.Common.{◌∙◌, false, refl, sym, true}
use Rattle.arrays.specs.Prelude.{has_dict_in_list, kind_of, out-Field}
use Rattle.table.proofs.AddLemmas.{faults-are}
use Rattle.table.proofs.widening.fault_of.Goals as goal

pub returns-then-is_too_deep : goal.returns-then-is_too_deep
returns-then-is_too_deep c =
    let f = c.args.field.now in
    faults-are f true true (has_dict_in_list (kind_of (out-Field f).ty)) c.if-not-field.false (sym c.is_too_deep.ensures ∙ c.if-is_too_deep.true) refl

pub returns-then-has_dict_in_list : goal.returns-then-has_dict_in_list
returns-then-has_dict_in_list c =
    faults-are c.args.field.now true false true c.if-not-field.false (sym c.is_too_deep.ensures ∙ c.if-is_too_deep.false)
    (sym c.has_dict_in_list.ensures ∙ c.if-has_dict_in_list.true)

pub returns : goal.returns
returns c =
    faults-are c.args.field.now true false false c.if-not-field.false (sym c.is_too_deep.ensures ∙ c.if-is_too_deep.false)
    (sym c.has_dict_in_list.ensures ∙ c.if-has_dict_in_list.false)
