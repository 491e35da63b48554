use Rattle.std.proofs.Common.{◌+◌, ◌∙◌, [], arith, subst, sym, take}
use Rattle.arrays.specs.Prelude.{Kind, field_of, fields_of}
use Rattle.arrays.proofs.ShapeLemmas.{kind_of_field-field_of}
use Rattle.answers.specs.Prelude.{AreStats}
use Rattle.table.proofs.EmptyLemmas.{fields-more, stats-more}
use Rattle.table.proofs.storage.empty.no_stats.Goals as goal

pub loop-field-preserved : goal.loop-field-preserved
loop-field-preserved c =
    let fields = c.args.fields.now in
    let i = c.loop-field.field-index in
    let f = c.field-item.result in
    stats-more (fields_of (take i fields)) (fields_of (take (i + 1) fields)) (field_of f) c.loop-field.stats.items c.push.new.self.items c.empty.result
    (fields-more fields i f (omega arith) c.field-item.is) c.in_ok-push.ensures.items c.loop-field.invariant
    (subst (λ (k : Kind). AreStats c.empty.result k []) (c.of.ensures ∙ sym (kind_of_field-field_of f)) c.empty.ensures)
