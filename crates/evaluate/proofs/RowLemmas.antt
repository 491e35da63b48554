-- The columns and the rows of lawful batches.
use Rattle.std.proofs.Common.{◌≡◌, ◌∙◌, ℕ, [], length, get_or, Bool, true, false, cond, is_ok, Some, None, Result, Ok, Err, ap, sym, refl}
use Rattle.std.specs.Prelude.{slice_index_or}
use Rattle.arrays.specs.Prelude.{Batch, FieldShape, Kind, Seen, batch_fault, field, is_list, kind_of_field, null}
use Rattle.arrays.specs.Kind as kind
use Rattle.arrays.specs.Shape.{boolean}
use Rattle.query.specs.Prelude.{fault_unless, is_plain, sort_at, sort_of_kind}
use Rattle.query.specs.declared.fault.QueryFault.{QueryFault}
use Rattle.query.specs.declared.fault.QueryFault.TheVariants.{WrongKind}
use Rattle.query.specs.declared.sort.Sort.{Sort}
use Rattle.evaluate.proofs.ColumnLemmas.{whole, field_there, sort_there, row_item, place_within}
use Rattle.evaluate.specs.Rows.{kind_at, HasColumn}
use Rattle.std.proofs.lemmas.List.{get_or-map}

-- A lawful batch has a column where a position has a sort.
pub is_column : (b : Batch) (place : ℕ) (c : Seen) → batch_fault b.fields b.rows b.columns ≡ None → is_ok (sort_at b.fields place) ≡ true
    → c ≡ get_or b.columns place c → HasColumn b place c
is_column b place c lawful ok is =
    let w = whole b.fields b.rows b.columns lawful in
    let below = place_within b place lawful ok in
    let f : FieldShape = field [] false boolean in
    record {
      sort = sort_there b.fields place f (field_there b.fields place ok)
          ∙ ap (λ k. Ok (sort_of_kind k)) (sym (ap (λ (s : Seen). s.kind) is ∙ w.kind place c f below));
      len = ap (λ (s : Seen). length s.items) is ∙ w.len place c below;
      item = λ i inside. ap (λ (s : Seen). slice_index_or s.items i null) is ∙ sym (row_item b.columns i place c below);
    }

-- The column at a place is of the kind of the field there.
pub kind_there : (b : Batch) (place : ℕ) (c : Seen) → batch_fault b.fields b.rows b.columns ≡ None → is_ok (sort_at b.fields place) ≡ true
    → c ≡ get_or b.columns place c → c.kind ≡ kind_at b.fields place
kind_there b place c lawful ok is =
    let f : FieldShape = field [] false boolean in
    ap (λ (s : Seen). s.kind) is
    ∙ (whole b.fields b.rows b.columns lawful).kind place c f (place_within b place lawful ok)
    ∙ sym (get_or-map kind_of_field b.fields place f kind.boolean (field_there b.fields place ok))

-- Where there is no fault, there is a sort that passes.
pub has_sort : (test : Sort → Bool) (r : Result Sort QueryFault) → fault_unless test r ≡ None → is_ok r ≡ true
has_sort test (Ok s) h = refl
has_sort test (Err e) h = absurd cc

passes : (b : Bool) (e : QueryFault) → cond b None (Some e) ≡ None → b ≡ true
passes true e h = refl
passes false e h = absurd cc

pub sort_passes : (test : Sort → Bool) (r : Result Sort QueryFault) (s : Sort) → fault_unless test r ≡ None → r ≡ Ok s → test s ≡ true
sort_passes test r s h is = passes (test s) WrongKind (ap (fault_unless test) (sym is) ∙ h)

pub plain_is_no_list : (k : Kind) → is_plain (sort_of_kind k) ≡ true → is_list k ≡ false
plain_is_no_list (kind.int t) h = refl
plain_is_no_list kind.boolean h = refl
plain_is_no_list (kind.texts w) h = refl
plain_is_no_list (kind.lists w k) h = absurd cc
plain_is_no_list kind.dict h = refl
