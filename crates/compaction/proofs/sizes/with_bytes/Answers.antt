use Rattle.std.proofs.Common.{◌∙◌, ◌+◌, ap, arith, length, zero-add}
use Rattle.arrays.specs.Prelude.{is_past, null, text}
use Rattle.arrays.specs.Kind as kind
use Rattle.compaction.proofs.SizeLemmas.{if-none, past-with, size-less}
use Rattle.compaction.proofs.sizes.with_bytes.Goals as goal
use Rattle.compaction.proofs.sizes.with_bytes.Goals.{in-Some+in_ok-bytes, in_default}

pub returns-in_err-bytes-clause-none : goal.returns-in_err-bytes-clause-none
returns-in_err-bytes-clause-none c =
    let bytes = c.in-Some.text.now in
    if-none c.from_residual.result _
    (past-with kind.utf8 0 c.args.view.now.items c.loop-i.i (text bytes) c.loop-i.bytes _ c.in-Some.ensures c.loop-i.invariant.sum
    (ap (λ n. is_past (c.loop-i.bytes + n)) (zero-add (length bytes)) ∙ c.in_err-bytes.ensures.none))

pub loop-i-preserved : goal.loop-i-preserved
loop-i-preserved c = elim c.match-text_as.branch [
  | in-Some+in_ok-bytes w ↦ record {
    sum = size-less kind.utf8 0 c.args.view.now.items c.loop-i.i (text w.in-Some.text.now) c.loop-i.bytes c.match-text_as.bytes _ w.in-Some.ensures c.loop-i.invariant.sum
        (omega (arith, w.bytes-is, w.in_ok-bytes.ensures.some.0));
    few = omega (arith, w.bytes-is, w.in_ok-bytes.ensures.some.1);
  }
  | in_default w ↦ record {
    sum = size-less kind.utf8 0 c.args.view.now.items c.loop-i.i null c.loop-i.bytes c.match-text_as.bytes _ w.in_default.ensures c.loop-i.invariant.sum (omega (arith, w.bytes-is));
    few = omega (arith, w.bytes-is, c.loop-i.invariant.few);
  }
]
