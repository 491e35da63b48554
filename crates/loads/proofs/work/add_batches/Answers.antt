use Rattle.std.proofs.Common.{map, subst, take, arith}
use Rattle.std.proofs.lemmas.Bool.Decides.{nat_tests}
use Rattle.std.proofs.lemmas.List.{length-map, take_all}
use Rattle.std.specs.Arc.{arc_value}
use Rattle.loads.specs.Loaded.{HasAppended}
use Rattle.loads.proofs.LoadLemmas.{appended_end, appended_next, value_at}
use Rattle.loads.proofs.work.add_batches.Goals as goal

pub loop-number-preserved : goal.loop-number-preserved
loop-number-preserved g c =
    let at = c.loop-number in
    let b = c.deref.result.now in
    let new = c.append.new.worker in record {
      appended = appended_next (map arc_value c.args.batches.now) at.number b c.args.worker.now at.worker new
          (value_at arc_value c.args.batches.now at.number c.index-batches-number.result b c.loop-number-test.true c.index-batches-number.is c.deref.ensures) at.invariant.appended c.in-Ok.ensures.added;
      first = omega (arith, at.invariant.first, c.in-Ok.ensures.raised.calls);
      last = grind (arith, nat_tests, c.in-Ok.ensures.receipt, c.in-Ok.ensures.raised.calls);
    }

pub returns-in-Err-clause-loaded : goal.returns-in-Err-clause-loaded
returns-in-Err-clause-loaded g c =
    let at = c.loop-number in
    let kept = c.in-Err.ensures.kept in
    let seen = c.in-Err.ensures.seen in
    appended_end (take at.number (map arc_value c.args.batches.now)) c.args.worker.now at.worker c.append.new.worker at.invariant.appended
    (record { number = seen.number; calls = kept.calls; rows = kept.rows; mine = seen.mine; columns = seen.columns; begun = seen.begun })

pub returns-in-Err-clause-stopped : goal.returns-in-Err-clause-stopped
returns-in-Err-clause-stopped g c =
    let b = c.deref.result.now in
    (b, value_at arc_value c.args.batches.now c.loop-number.number c.index-batches-number.result b c.loop-number-test.true c.index-batches-number.is c.deref.ensures, c.in-Err.ensures.cause)

pub returns-clause-appended : goal.returns-clause-appended
returns-clause-appended g c =
    let at = c.loop-number in
    let all = take_all at.number (map arc_value c.args.batches.now) (omega (arith, c.loop-number-test.false, length-map c.args.batches.now arc_value)) in
    subst (λ l. HasAppended l c.args.worker.now at.worker) all at.invariant.appended
