use Rattle.std.proofs.Common.{◌≡◌, ◌∙◌, true, false, OnOk, sym, ap, subst, append_assoc}
use Rattle.std.proofs.lemmas.Result.{IfOk-equal}
use Rattle.json_print.specs.Prelude.{AddsMembers, has_dictionary, last_members}
use Rattle.json_print.proofs.Batches.{has_dictionary-fields}
use Rattle.json_print.proofs.file.write_last_members.Goals as goal

pub returns-then-not-has_dictionary : goal.returns-then-not-has_dictionary
returns-then-not-has_dictionary c =
    let schema = c.args.schema.now in
    let none : has_dictionary schema ≡ false =
    ap has_dictionary (sym c.fields-fields.ensures.value) ∙ has_dictionary-fields c.fields-fields.result.now ∙ sym c.has_dictionary.ensures ∙ c.if-not-has_dictionary.true in
    subst (λ b. OnOk c.write_schema_member.result (AddsMembers (last_members b c.args.dictionaries.now schema) c.args.out.now c.write_schema_member.new.out)) (sym none)
    c.write_schema_member.ensures

pub returns : goal.returns
returns c =
    let schema = c.args.schema.now in
    let some : has_dictionary schema ≡ true =
    ap has_dictionary (sym c.fields-fields.ensures.value) ∙ has_dictionary-fields c.fields-fields.result.now ∙ sym c.has_dictionary.ensures ∙ c.if-not-has_dictionary.false in
    subst (λ b. OnOk c.write_schema_member-2.result (AddsMembers (last_members b c.args.dictionaries.now schema) c.args.out.now c.write_schema_member-2.new.out)) (sym some)
    (IfOk-equal c.write_schema_member-2.result _ _ _ c.write_schema_member-2.ensures
    (simp (c.in_ok-write_entries.ensures, c.in_ok-begin_array.ensures, c.in_ok-key.ensures, c.fields-fields.ensures.value, append_assoc)))
