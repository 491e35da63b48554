-- The sorts of columns and what kernels ask of their kinds.
use Rattle.std.proofs.Common.{◌≡◌, Bool, true, false, is_some, cond, Some, None, refl, sym, true≢false}
use Rattle.arrays.specs.Kind as kind
use Rattle.arrays.specs.Prelude.{Kind, same_kind}
use Rattle.kernels.specs.Prelude.{are_comparable, are_one_int}
use Rattle.query.specs.Sorts.{arithmetic, comparison, is_truth, junction, sort_of_kind}
use Rattle.query.specs.declared.sort.Sort.{Sort}

reported : (b : Bool) (s : Sort) → is_some (cond b (Some s) None) ≡ true → b ≡ true
reported true s h = refl
reported false s h = h

pub one_int : (k l : Kind) → is_some (arithmetic (sort_of_kind k) (sort_of_kind l)) ≡ true → are_one_int k l ≡ true
one_int (kind.int s) (kind.int t) h = reported (kind.same_int s t) (sort_of_kind (kind.int s)) h
one_int (kind.int s) kind.boolean h = h
one_int (kind.int s) (kind.texts w) h = h
one_int (kind.int s) (kind.lists w k) h = h
one_int (kind.int s) kind.dict h = h
one_int kind.boolean l h = absurd (true≢false (sym h))
one_int (kind.texts w) l h = absurd (true≢false (sym h))
one_int (kind.lists w k) l h = absurd (true≢false (sym h))
one_int kind.dict l h = absurd (true≢false (sym h))

pub comparable : (k l : Kind) → is_some (comparison (sort_of_kind k) (sort_of_kind l)) ≡ true → are_comparable k l ≡ true
comparable (kind.int s) (kind.int t) h = reported (kind.same_int s t) _ h
comparable (kind.int s) kind.boolean h = h
comparable (kind.int s) (kind.texts w) h = h
comparable (kind.int s) (kind.lists w l) h = h
comparable (kind.int s) kind.dict h = h
comparable kind.boolean (kind.int t) h = h
comparable kind.boolean kind.boolean h = h
comparable kind.boolean (kind.texts w) h = h
comparable kind.boolean (kind.lists w l) h = h
comparable kind.boolean kind.dict h = h
comparable (kind.texts w) (kind.int t) h = h
comparable (kind.texts w) kind.boolean h = h
comparable (kind.texts v) (kind.texts w) h = h
comparable (kind.texts v) (kind.lists w l) h = h
comparable (kind.texts w) kind.dict h = h
comparable (kind.lists w k) l h = absurd (true≢false (sym h))
comparable kind.dict (kind.int t) h = h
comparable kind.dict kind.boolean h = h
comparable kind.dict (kind.texts w) h = h
comparable kind.dict (kind.lists w l) h = h
comparable kind.dict kind.dict h = h

is_boolean : (k : Kind) → is_truth (sort_of_kind k) ≡ true → same_kind k kind.boolean ≡ true
is_boolean (kind.int t) h = h
is_boolean kind.boolean h = refl
is_boolean (kind.texts w) h = h
is_boolean (kind.lists w k) h = h
is_boolean kind.dict h = h

pub truths : (k l : Kind) → is_some (junction (sort_of_kind k) (sort_of_kind l)) ≡ true → (same_kind k kind.boolean ≡ true) × (same_kind l kind.boolean ≡ true)
truths (kind.int t) l h = absurd (true≢false (sym h))
truths kind.boolean l h = (refl, is_boolean l (reported (is_truth (sort_of_kind l)) _ h))
truths (kind.texts w) l h = absurd (true≢false (sym h))
truths (kind.lists w k) l h = absurd (true≢false (sym h))
truths kind.dict l h = absurd (true≢false (sym h))
