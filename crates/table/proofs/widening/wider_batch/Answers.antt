use Rattle.std.proofs.Common.{◌≡◌, ◌∙◌, ◌++◌, [], ◌∷◌, List, ap, sym}
use Rattle.std.specs.Arc.{arc_value}
use Rattle.arrays.specs.Prelude.{Batch, FieldShape, Kind, Seen, batch_fault, field_of, kind_of, nulls}
use Rattle.arrays.proofs.ShapeLemmas.{kind_of_field-field_of}
use Rattle.table.specs.Widening.{with_nulls}
use Rattle.table.proofs.WiderLemmas.{nulls-lawful}
use Rattle.table.proofs.widening.wider_batch.Goals as goal

pub under-requires : goal.under-requires
under-requires c =
    let b = c.args.batch.now in
    let f = field_of c.args.field.now in
    let columns : c.push.new.self.items ≡ (with_nulls f b).columns =
    c.in_ok-push.ensures.items
    ∙ ap (λ (l : List Seen). l ++ c.in_ok-nulls.field-0 ∷ []) (c.in_ok-columns.ensures ∙ c.columns.ensures.value)
    ∙ ap (λ (s : Seen). b.columns ++ s ∷ [])
    (c.in_ok-nulls.ensures ∙ ap (nulls (kind_of c.args.field.now.ty)) c.rows.ensures ∙ ap (λ (k : Kind). nulls k b.rows) (sym (kind_of_field-field_of c.args.field.now))) in
    ap (λ (l : List FieldShape). batch_fault l c.rows-2.result c.push.new.self.items) (c.in_ok-clone.ensures.cases ∙ c.requires.under)
    ∙ ap (λ n. batch_fault (b.fields ++ f ∷ []) n c.push.new.self.items) c.rows-2.ensures
    ∙ ap (batch_fault (b.fields ++ f ∷ []) b.rows) columns
    ∙ nulls-lawful f b c.columns.ensures.lawful

pub returns : goal.returns
returns c =
    let b = c.args.batch.now in
    let f = field_of c.args.field.now in
    let columns : c.push.new.self.items ≡ (with_nulls f b).columns =
    c.in_ok-push.ensures.items
    ∙ ap (λ (l : List Seen). l ++ c.in_ok-nulls.field-0 ∷ []) (c.in_ok-columns.ensures ∙ c.columns.ensures.value)
    ∙ ap (λ (s : Seen). b.columns ++ s ∷ [])
    (c.in_ok-nulls.ensures ∙ ap (nulls (kind_of c.args.field.now.ty)) c.rows.ensures ∙ ap (λ (k : Kind). nulls k b.rows) (sym (kind_of_field-field_of c.args.field.now))) in
    let fields : arc_value c.in_ok-clone.field-0 ≡ b.fields ++ f ∷ [] = c.in_ok-clone.ensures.cases ∙ c.requires.under in
    let size : c.rows-2.result ≡ b.rows = c.rows-2.ensures in
    let same : ◌≡◌ {A = Batch} (record { fields = arc_value c.in_ok-clone.field-0; rows = c.rows-2.result; columns = c.push.new.self.items }) (with_nulls f b) =
    λ i. record { fields = fields i; rows = size i; columns = columns i } in
    c.under.ensures ∙ same
