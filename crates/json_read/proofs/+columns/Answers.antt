use Rattle.std.proofs.Common.{◌≡◌, ◌∙◌, ℕ, [], Result, Ok, IfErr, ap, sym, subst, rules}
use Rattle.std.specs.Result.{MatchResult, IsErrAnd}
use Rattle.json_base.specs.Prelude.{Data, IsUnder, Tells, view}
use Rattle.arrays.specs.Prelude.{Field, Kind, Narrow, OffsetWidth, Wide, kind_of, out-Field}
use Rattle.arrays.proofs.ShapeLemmas.{kind_of-List, kind_of-LargeList}
use Rattle.json_base.specs.declared.fault.JsonFault.{JsonFault}
use Rattle.arrays.specs.Kind as kind
use Rattle.arrays.proofs.DictionaryLemmas.{kind_of-Dict}
use Rattle.json_base.specs.declared.fault.JsonFaultKind.TheVariants.{UnsupportedType}
use Rattle.json_read.specs.JsonBatchFault.{KindFault}
use Rattle.json_base.specs.declared.path.Member.TheVariants as member
use Rattle.json_base.specs.declared.path.Step.TheVariants as step
use Rattle.json_read.proofs.JsonBatches.{tells_unread}
use Rattle.json_read.proofs.JsonLists.{lists_flags, lists_offsets, lists_child}
use Rattle.json_base.proofs.JsonResults.{error_kept, error_made}
use Rattle.json_read.proofs.+columns.Goals as goal

-- what is over a column of lists is reported of its field's column
lists_faults : {A : Type 0} (w : OffsetWidth) (k : Kind) (item inner : Field) (n : ℕ) (d : Data) (r : Result A JsonFault) → k ≡ kind.lists w (kind_of (out-Field inner).ty) → item ≡ inner
    → IfErr r (Tells (KindFault (kind.lists w (kind_of (out-Field item).ty)) n d)) → IfErr r (Tells (KindFault k n d))
lists_faults w k item inner n d r is same reported =
    let kind_is : kind.lists w (kind_of (out-Field item).ty) ≡ k = ap (λ f. kind.lists w (kind_of (out-Field f).ty)) same ∙ sym is in
    subst (λ x. IfErr r (Tells (KindFault x n d))) kind_is reported

pub batch::read_array-returns-in-List-clause-err : goal.batch::read_array-returns-in-List-clause-err
batch::read_array-returns-in-List-clause-err t c = lists_faults Narrow _ _ _ _ _ _ (ap kind_of c.in-List.is ∙ kind_of-List c.in-List.item) c.deref.ensures c.read_list.ensures.err

pub batch::read_array-returns-in-LargeList-clause-err : goal.batch::read_array-returns-in-LargeList-clause-err
batch::read_array-returns-in-LargeList-clause-err t c =
    lists_faults Wide _ _ _ _ _ _ (ap kind_of c.in-LargeList.is ∙ kind_of-LargeList c.in-LargeList.item) c.deref-in-LargeList.ensures c.read_list-in-LargeList.ensures.err

pub list::read_list-returns-in_err-validity-clause-err : goal.list::read_list-returns-in_err-validity-clause-err
list::read_list-returns-in_err-validity-clause-err t c =
    error_kept _ _ _ c.from_residual-in_err-validity.ensures.1 (lists_flags _ _ _ _ _ _ _ _ _ c.in_err-validity.ensures.err c.in_ok-parts.ensures.given)

pub list::read_list-returns-in_err-offsets-clause-err : goal.list::read_list-returns-in_err-offsets-clause-err
list::read_list-returns-in_err-offsets-clause-err t c =
    let cases : MatchResult c.read_offsets-read.result (λ y. c.map_err.result ≡ Ok y) (λ e. IsErrAnd c.map_err.result (IsUnder (step.Member member.Offset) e)) = search rules in
    error_made _ _ _ _ _ _ _ cases c.in_err-offsets.was c.read_offsets-read.ensures.err c.from_residual-in_err-offsets.ensures.1
    (λ _ reported under. lists_offsets _ _ _ _ _ _ _ _ _ _ reported c.in_ok-parts.ensures.given under)

pub list::read_list-returns-in-Err-clause-err : goal.list::read_list-returns-in-Err-clause-err
list::read_list-returns-in-Err-clause-err t c =
    lists_child _ _ _ _ _ _ _ _ _ _ _ c.in-Err.ensures.err c.in_ok-parts.ensures.given c.under-fault.ensures c.under.ensures

pub batch::read_array-returns-in-Dict-clause-err : goal.batch::read_array-returns-in-Dict-clause-err
batch::read_array-returns-in-Dict-clause-err t c =
    let is = ap kind_of c.in-Dict.is ∙ kind_of-Dict in
    tells_unread _ _ _ _ (λ reported. subst (λ k. KindFault k c.args.rows (view c.args.column.now) UnsupportedType []) (sym is) reported) c.at.ensures
