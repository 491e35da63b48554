use Rattle.std.proofs.Common.{None, ◌≡◌, ◌∙◌, subst}
use Rattle.arrays.specs.Prelude.{Kind, field_of, fields_of, read_lent}
use Rattle.flat.proofs.LentLemmas.{at_column, lends_batch, lends_more}
use Rattle.flat.proofs.lent.nodes_of.Goals as goal

pub push_column-requires : goal.push_column-requires
push_column-requires c =
    let columns = c.columns-columns in
    let at = at_column c.args.batch.now c.fields-fields.result.now columns.result.now c.loop-k.k c.index-fields-k.result c.index-columns-k.result (c.fields-fields.ensures.value ∙ c.schema.ensures) columns.ensures.value
    columns.ensures.lawful c.loop-k-test.true c.index-fields-k.is c.index-columns-k.is in
    subst (λ (k : Kind). (read_lent k c.parts.result).fault ≡ None) at.kind c.parts.ensures.lawful

pub loop-k-preserved : goal.loop-k-preserved
loop-k-preserved c =
    let columns = c.columns-columns in
    let s = c.index-columns-k.result in
    let at = at_column c.args.batch.now c.fields-fields.result.now columns.result.now c.loop-k.k c.index-fields-k.result s (c.fields-fields.ensures.value ∙ c.schema.ensures) columns.ensures.value
    columns.ensures.lawful c.loop-k-test.true c.index-fields-k.is c.index-columns-k.is in
    lends_more (fields_of c.fields-fields.result.now) columns.result.now c.loop-k.k c.loop-k.nodes.items c.push_column.new.nodes.items (field_of c.index-fields-k.result) s c.parts.result c.loop-k.invariant at.at_f at.at_s
    (subst (λ (k : Kind). (read_lent k c.parts.result).fault ≡ None) at.kind c.parts.ensures.lawful)
    (subst (λ (k : Kind). (read_lent k c.parts.result).seen ≡ s) at.kind c.parts.ensures.shows)
    c.in_ok-push_column.ensures

pub returns : goal.returns
returns c =
    let columns = c.columns-columns in
    lends_batch c.args.batch.now c.fields-fields.result.now columns.result.now c.loop-k.k c.loop-k.nodes.items (c.fields-fields.ensures.value ∙ c.schema.ensures) columns.ensures.value columns.ensures.lawful c.loop-k-test.false
    c.loop-k.invariant
