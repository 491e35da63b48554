use Rattle.std.proofs.Common.{◌≡◌, ◌∙◌, ◌+◌, ◌++◌, [], ◌∷◌, ap, arith, map, option_map, take}
use Rattle.std.specs.Arc.{arc_value}
use Rattle.std.proofs.lemmas.List.{map-append}
use Rattle.arrays.specs.Kind as kind
use Rattle.arrays.specs.Prelude.{field_of, fields_of, kind_of, same_kind}
use Rattle.arrays.proofs.ShapeLemmas.{kind_of_field-field_of}
use Rattle.table.specs.Lawful.{dictionaries_of}
use Rattle.table.proofs.EmptyLemmas.{entries-more, fields-more}
use Rattle.table.proofs.storage.empty.no_entries.Goals as goal

pub loop-field-init : goal.loop-field-init
unfolding dictionaries_of
loop-field-init c = ap (map (option_map arc_value)) c.in_ok-dictionaries.ensures.items

pub loop-field-preserved : goal.loop-field-preserved
loop-field-preserved c =
    let fields = c.args.fields.now in
    let i = c.loop-field.field-index in
    let f = c.field-item.result in
    let entry = c.in_ok-no_entry.field-0 in
    let shown_entry = option_map arc_value entry in
    let old = map (option_map arc_value) c.loop-field.dictionaries.items in
    let pushed : map (option_map arc_value) c.push.new.self.items ≡ old ++ shown_entry ∷ [] =
    ap (map (option_map arc_value)) c.in_ok-push.ensures.items ∙ map-append (option_map arc_value) c.loop-field.dictionaries.items (entry ∷ []) in
    entries-more (fields_of (take i fields)) (fields_of (take (i + 1) fields)) (field_of f) old (map (option_map arc_value) c.push.new.self.items) shown_entry (same_kind (kind_of f.ty) kind.dict)
    (fields-more fields i f (omega arith) c.field-item.is) pushed c.loop-field.invariant
    (ap (λ k. same_kind k kind.dict) (kind_of_field-field_of f)) c.in_ok-no_entry.ensures
