use Rattle.std.proofs.Common.{◌∙◌, ◌+◌, ◌∷◌, [], List, map, sym, ap, ap₂, add-one, arith}
use Rattle.std.specs.Arc.{arc_value}
use Rattle.arrays.specs.Prelude.{Field, fields_of}
use Rattle.arrays.proofs.ShapeLemmas.{kind_of_field-field_of}
use Rattle.json_base.specs.JsonTable.{tables_of}
use Rattle.json_print.specs.Dictionaries.{column_items, dictionaries_from, dictionary_of}
use Rattle.json_print.proofs.Batches.{encoded_all}
use Rattle.json_print.proofs.Steps.{step}
use Rattle.json_print.proofs.dictionaries.dictionaries_of.Goals as goal

pub dictionary-requires : goal.dictionary-requires
dictionary-requires c is =
    encoded_all c.args.fields.now (map arc_value c.args.batches.now) c.loop-place.place c.index-fields-place.result c.requires (omega arith) c.index-fields-place.is is

pub loop-place-preserved : goal.loop-place-preserved
loop-place-preserved c =
    let tables = tables_of (map arc_value c.args.batches.now) in
    let place = c.loop-place.place in
    let f : Field = c.index-fields-place.result in
    let items = column_items place tables in
    step (λ (fs : List Field). dictionaries_from place (fields_of fs) tables) (λ (fs : List Field). dictionaries_from (place + 1) (fields_of fs) tables)
    c.args.fields.now place f (c.in_ok-texts.texts ∷ []) c.loop-place.dictionaries.items c.push.new.self.items _
    (λ fs. ap₂ (λ texts n. texts ∷ dictionaries_from n (fields_of fs) tables) (ap (λ k. dictionary_of k items) (kind_of_field-field_of f) ∙ sym c.in_ok-texts.ensures) (sym (add-one place)))
    (omega arith) c.index-fields-place.is c.in_ok-push.ensures.items c.loop-place.invariant
