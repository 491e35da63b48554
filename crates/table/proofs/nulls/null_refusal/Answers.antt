use Rattle.std.proofs.Common.{◌≡◌, ◌∙◌, ◌<◌, length, ap, sym, arith}
use Rattle.std.proofs.lemmas.List.{get_or-map, length-map}
use Rattle.arrays.specs.Prelude.{Seen, field_of, fields_of}
use Rattle.table.proofs.NullLemmas.{null_cause-from, refused_from, refused_from-end, refused_from-none, refused_from-some}
use Rattle.table.proofs.nulls.null_refusal.Goals as goal

pub loop-column-init : goal.loop-column-init
loop-column-init c = λ t has. null_cause-from t (fields_of c.args.fields.now)

pub returns-in-Some : goal.returns-in-Some
returns-in-Some c =
    λ t has.
    let fields = c.args.fields.now in
    let k = c.loop-column.column in
    let f = c.index-fields-column.result in
    let s = c.index-columns-column.result in
    let within : k < length fields = omega (arith, c.requires) in
    let here = get_or-map field_of fields k f (field_of f) within ∙ ap field_of (sym c.index-fields-column.is) in
    let same = has.each k s (omega arith) ∙ ap (λ (x : Seen). x.items) (sym c.index-columns-column.is) in
    sym (c.loop-column.invariant t has
    ∙ refused_from-some t (fields_of fields) k (field_of f) s.items c.null_row.result c.in-Some.row (omega (arith, length-map fields field_of)) same here c.null_row.ensures c.in-Some.is)

pub loop-column-preserved : goal.loop-column-preserved
loop-column-preserved c =
    λ t has.
    let fields = c.args.fields.now in
    let k = c.loop-column.column in
    let f = c.index-fields-column.result in
    let s = c.index-columns-column.result in
    let within : k < length fields = omega (arith, c.requires) in
    let here = get_or-map field_of fields k f (field_of f) within ∙ ap field_of (sym c.index-fields-column.is) in
    let same = has.each k s (omega arith) ∙ ap (λ (x : Seen). x.items) (sym c.index-columns-column.is) in
    c.loop-column.invariant t has
    ∙ refused_from-none t (fields_of fields) k (field_of f) s.items c.null_row.result (omega (arith, length-map fields field_of)) same here c.null_row.ensures c.in_default.is

pub returns : goal.returns
returns c =
    λ t has.
    let fields = fields_of c.args.fields.now in
    let all : c.loop-column.column ≡ length fields = omega (arith, c.requires, length-map c.args.fields.now field_of) in
    sym (c.loop-column.invariant t has ∙ ap (refused_from t fields) all ∙ refused_from-end t fields)
