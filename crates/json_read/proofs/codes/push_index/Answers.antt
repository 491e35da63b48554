use Rattle.std.proofs.Common.{◌≡◌, ◌∙◌, ◌++◌, ◌∷◌, [], true, false, length, ap, sym, rules}
use Rattle.std.specs.Int.{w128}
use Rattle.std.specs.Prelude.{FitsSigned}
use Rattle.std.proofs.lemmas.Int.{to_z-of_z}
use Rattle.arrays.specs.Prelude.{int, is_code}
use Rattle.json_read.specs.SlotParts.{flags_in, values_in}
use Rattle.json_read.proofs.JsonCodes.{index_added, tells_no_index, tells_past}
use Rattle.json_base.proofs.JsonItems.{get_item_at}
use Rattle.json_read.proofs.codes.push_index.Goals as goal

pub returns-in_default-clause-err : goal.returns-in_default-clause-err
returns-in_default-clause-err c =
    tells_no_index c.args.ty c.args.texts.now.items (flags_in c.args.slots.now) (values_in c.args.slots.now) c.args.index _ _
    (get_item_at _ _ c.index-slots-index.result c.requires.within) c.requires.valid (sym c.in_default.ensures.value) c.at.ensures

pub returns-then-not-is_entry-clause-err : goal.returns-then-not-is_entry-clause-err
returns-then-not-is_entry-clause-err c =
    let fits : FitsSigned w128 c.in-Some.number = search rules in
    let tested : false ≡ is_code c.slots.result (int c.in-Some.number) = rw to_z-of_z at c.if-not-is_entry.ensures in
    let past : is_code (length c.args.texts.now.items) (int c.in-Some.number) ≡ false = ap (λ n. is_code n (int c.in-Some.number)) (sym c.slots.ensures.count) ∙ sym tested in
    tells_past c.args.ty c.args.texts.now.items (flags_in c.args.slots.now) (values_in c.args.slots.now) c.args.index c.args.builder.now _ c.in-Some.number _
    c.requires.so_far (get_item_at _ _ c.index-slots-index.result c.requires.within) c.requires.valid (sym c.in-Some.ensures.value) past c.at-then-not-is_entry.ensures

pub returns-in-Ok-clause-ok : goal.returns-in-Ok-clause-ok
returns-in-Ok-clause-ok c =
    let number = c.in-Some.number in
    let fits : FitsSigned w128 number = search rules in
    let tested : true ≡ is_code c.slots.result (int number) = rw to_z-of_z at c.if-not-is_entry.ensures in
    let code : is_code (length c.args.texts.now.items) (int number) ≡ true = ap (λ n. is_code n (int number)) (sym c.slots.ensures.count) ∙ sym tested in
    let grown : c.push.new.self.items ≡ c.args.builder.now.items ++ int number ∷ [] = rw to_z-of_z at c.in-Ok.ensures.ok in
    index_added c.args.ty c.args.texts.now.items (flags_in c.args.slots.now) (values_in c.args.slots.now) c.args.index c.args.builder.now c.push.new.self _ number
    c.requires.so_far c.requires.valid (get_item_at _ _ c.index-slots-index.result c.requires.within) (sym c.in-Some.ensures.value) code c.in-Ok.ensures.kept grown
