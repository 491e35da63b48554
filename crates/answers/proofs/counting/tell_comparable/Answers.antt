use Rattle.std.proofs.Common.{ℕ, List, All, subst, arith}
use Rattle.std.proofs.lemmas.List.{take_all}
use Rattle.std.proofs.lemmas.List.Elements.{All-more}
use Rattle.arrays.specs.Batch.{Row, rows_of}
use Rattle.query.specs.declared.expr.Agg.{Agg}
use Rattle.tallies.specs.Prelude.{IsComparable, item_for}
use Rattle.evaluate.specs.Rows.{kind_at}
use Rattle.answers.proofs.KindLemmas.{all_turned}
use Rattle.answers.proofs.counting.tell_comparable.Goals as goal

pub loop-agg-preserved : goal.loop-agg-preserved
loop-agg-preserved c =
    let b = c.args.batch.now in
    All-more (λ (a : Agg ℕ). All (λ (row : Row). IsComparable (kind_at b.fields) a (item_for a row)) (rows_of b)) c.args.aggs.now c.loop-agg.agg-index _
    (omega arith) c.loop-agg.invariant c.tell_items.ensures

pub returns : goal.returns
returns c =
    let b = c.args.batch.now in
    let aggs : List (Agg ℕ) = c.args.aggs.now in
    let P : Agg ℕ → Row → Type 0 = λ a row. IsComparable (kind_at b.fields) a (item_for a row) in
    all_turned P aggs (rows_of b)
    (subst (All (λ (a : Agg ℕ). All (P a) (rows_of b))) (take_all c.loop-agg.agg-index aggs (omega arith)) c.loop-agg.invariant)
