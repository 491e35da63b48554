use Rattle.std.proofs.Common.{◌≡◌, ◌∙◌, All, List, ap, map, subst, sym}
use Rattle.std.proofs.lemmas.Simd.{map-map}
use Rattle.std.specs.Arc.{arc_value}
use Rattle.std.specs.List.{AllByRecursion}
use Rattle.arrays.specs.Prelude.{Batch, FieldShape, File, rows_of}
use Rattle.table.specs.Prelude.{IsLawful, IsUnder, show}
use Rattle.table.proofs.ExportLemmas.{Shared, are-batches, are-lawful, are-under}
use Rattle.table.proofs.export.file_of.Goals as goal

pub new-requires : goal.new-requires
new-requires c =
    let batches = c.in_ok-batches.batches.items in
    are-batches (arc_value c.in_ok-clone.field-0) batches
    (subst (λ (f : List FieldShape). All (λ (b : Shared). IsUnder f (arc_value b)) batches) (sym c.in_ok-clone.ensures.cases) c.in_ok-batches.ensures.under)

pub returns-clause-tables : goal.returns-clause-tables
returns-clause-tables c =
    ap (λ (f : File). map rows_of f.batches) c.new.ensures
    ∙ map-map rows_of (λ (b : Shared). arc_value b) c.in_ok-batches.batches.items
    ∙ c.in_ok-batches.ensures.tables

pub returns-clause-under : goal.returns-clause-under
returns-clause-under c =
    let batches = c.in_ok-batches.batches.items in
    subst (λ (f : File). AllByRecursion (λ (b : Batch). b.fields ≡ f.fields) f.batches) (sym c.new.ensures)
    (are-under (arc_value c.in_ok-clone.field-0) batches
    (subst (λ (f : List FieldShape). All (λ (b : Shared). IsUnder f (arc_value b)) batches) (sym c.in_ok-clone.ensures.cases) c.in_ok-batches.ensures.under))

pub returns-clause-lawful : goal.returns-clause-lawful
returns-clause-lawful c =
    subst (λ (f : File). AllByRecursion IsLawful f.batches) (sym c.new.ensures)
    (are-lawful (show c.args.storage.now).fields c.in_ok-batches.batches.items c.in_ok-batches.ensures.under)
