use Rattle.std.proofs.Common.{◌≡◌, ◌∙◌, ℕ, ◌+◌, ◌<◌, ◌⊎◌, ap, arith, inl, inr, length, min, subst, sym, take}
use Rattle.std.proofs.lemmas.Bool.{cases_lt}
use Rattle.arrays.specs.Prelude.{Batch, most_slots}
use Rattle.compaction.specs.Prelude.{IsLongest, has_few, together}
use Rattle.compaction.proofs.FrontLemmas.{few-fronts, few-is, longest-stop, many-is, rows-more, tables_of}
use Rattle.compaction.proofs.groups.rows_front.Goals as goal

past-either : (m n most : ℕ) → most ≡ min most_slots m → most < n → (m < n) ⊎ (most_slots < n)
past-either m n most is more = elim (cases_lt m n) [ inl lt ↦ inl lt | inr le ↦ inr (omega (arith, is, more, le)) ]

pub returns-then-rows-most : goal.returns-then-rows-most
returns-then-rows-most c =
    let batches = c.args.batches.now in
    let m = c.args.max_rows in
    let n = c.loop-n.n in
    let before = length (together (take n (tables_of batches))) in
    let after = length (together (take (n + 1) (tables_of batches))) in
    let more = rows-more batches n c.index-batches-n.result c.loop-n-test.true c.index-batches-n.is in
    let rows = c.rows.ensures ∙ ap (λ (b : Batch). b.rows) c.deref.ensures in
    subst (λ k. IsLongest (has_few m) (length batches) k (tables_of batches)) (sym c.max.ensures)
    (longest-stop (has_few m) (few-fronts m) (tables_of batches) (length batches) n c.loop-n-test.true
    (few-is m before (omega (arith, c.loop-n.invariant.counted, c.loop-n.invariant.few, c.min-most.ensures)) (omega (arith, c.loop-n.invariant.counted, c.loop-n.invariant.few, c.min-most.ensures)))
    (many-is m after (past-either m after c.min-most.result c.min-most.ensures (omega (arith, more, rows, c.loop-n.invariant.counted, c.if-rows-most.true)))))

pub loop-n-preserved : goal.loop-n-preserved
loop-n-preserved c =
    let more = rows-more c.args.batches.now c.loop-n.n c.index-batches-n.result c.loop-n-test.true c.index-batches-n.is in
    let rows = c.rows.ensures ∙ ap (λ (b : Batch). b.rows) c.deref.ensures in
    record {
      counted = omega (arith, more, rows, c.loop-n.invariant.counted);
      few = c.if-rows-most.false;
    }
