use Rattle.std.proofs.Common.{◌∙◌, ◌+◌, ◌≤◌, All, ap, arith, length, map, subst, sym}
use Rattle.std.specs.Arc.{arc_value}
use Rattle.arrays.specs.Prelude.{Batch, Seen, rows_of}
use Rattle.table.specs.Export.{IsLawful, copied}
use Rattle.table.proofs.ExportLemmas.{part-fits, rows-of-all, rows-of-part, slots-within}
use Rattle.table.proofs.export.part_of.Goals as goal

pub returns-then-rows-clause-rows : goal.returns-then-rows-clause-rows
returns-then-rows-clause-rows c =
    ap rows_of c.in_ok-clone.ensures.cases
    ∙ rows-of-all (arc_value c.args.batch.now) c.args.start c.args.rows c.requires.within (c.if-rows.true ∙ c.rows.ensures ∙ ap (λ (b : Batch). b.rows) c.deref-2.ensures)

pub returns-then-rows-clause-lawful : goal.returns-then-rows-clause-lawful
returns-then-rows-clause-lawful c = subst IsLawful (c.deref.ensures ∙ sym c.in_ok-clone.ensures.cases) c.columns-whole.ensures.lawful

pub columns_of-requires : goal.columns_of-requires
columns_of-requires c =
    let b = c.deref.result.now in
    let within : c.args.start + c.args.rows ≤ b.rows = omega (arith, c.requires.within, ap (λ (b : Batch). b.rows) c.deref.ensures) in
    subst (All (λ (s : Seen). c.args.start + c.args.rows ≤ length s.items)) (sym c.columns-whole.ensures.value)
    (slots-within b c.args.start c.args.rows within c.columns-whole.ensures.lawful)

pub under-part-requires : goal.under-part-requires
under-part-requires c =
    let b = c.deref.result.now in
    let within : c.args.start + c.args.rows ≤ b.rows = omega (arith, c.requires.within, ap (λ (b : Batch). b.rows) c.deref.ensures) in
    part-fits b (arc_value c.in_ok-clone-2.field-0) c.in_ok-columns.columns.items c.args.start c.args.rows within c.columns-whole.ensures.lawful
    (c.in_ok-clone-2.ensures.cases ∙ sym c.requires.fields ∙ ap (λ (b : Batch). b.fields) (sym c.deref.ensures))
    (c.in_ok-columns.ensures ∙ ap (map (copied c.args.start c.args.rows)) c.columns-whole.ensures.value)

pub returns-clause-fields : goal.returns-clause-fields
returns-clause-fields c =
    ap (λ (b : Batch). b.fields) (c.in_ok-new.ensures.ok ∙ c.under-part.ensures) ∙ c.in_ok-clone-2.ensures.cases ∙ sym c.requires.fields

pub returns-clause-lawful : goal.returns-clause-lawful
returns-clause-lawful c =
    let b = c.deref.result.now in
    let within : c.args.start + c.args.rows ≤ b.rows = omega (arith, c.requires.within, ap (λ (b : Batch). b.rows) c.deref.ensures) in
    subst IsLawful (sym (c.in_ok-new.ensures.ok ∙ c.under-part.ensures))
    (part-fits b (arc_value c.in_ok-clone-2.field-0) c.in_ok-columns.columns.items c.args.start c.args.rows within c.columns-whole.ensures.lawful
    (c.in_ok-clone-2.ensures.cases ∙ sym c.requires.fields ∙ ap (λ (b : Batch). b.fields) (sym c.deref.ensures))
    (c.in_ok-columns.ensures ∙ ap (map (copied c.args.start c.args.rows)) c.columns-whole.ensures.value))

pub returns-clause-rows : goal.returns-clause-rows
returns-clause-rows c =
    let b = arc_value c.args.batch.now in
    let columns = c.in_ok-columns.ensures ∙ ap (map (copied c.args.start c.args.rows)) (c.columns-whole.ensures.value ∙ ap (λ (b : Batch). b.columns) c.deref.ensures) in
    let part = c.in_ok-new.ensures.ok ∙ c.under-part.ensures in
    rows-of-part b (arc_value c.in_ok-new.field-0) c.args.start c.args.rows c.requires.within (ap (λ (b : Batch). b.rows) part) (ap (λ (b : Batch). b.columns) part ∙ columns)
