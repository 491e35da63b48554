use Rattle.std.proofs.Common.{◌∙◌, ◌++◌, [], ap, refl, map, subst, sym, take, arith}
use Rattle.std.proofs.lemmas.Bool.Decides.{nat_tests}
use Rattle.std.proofs.lemmas.List.{length-map, take_all}
use Rattle.std.proofs.lemmas.Option.{get_or_from_slice_get, slice_get_within}
use Rattle.std.specs.Arc.{arc_value}
use Rattle.std.specs.Prelude.{nat_lt, slice_get}
use Rattle.arrays.specs.File.{File}
use Rattle.shared.specs.Hand.{calls_of_hand}
use Rattle.loads.specs.Prelude.{HasAppended, IsRun, Loaded, batches_of_files, planned, seen_since}
use Rattle.loads.proofs.LoadLemmas.{appended_end, appended_then, value_at}
use Rattle.loads.proofs.PlanLemmas.{planned_other, planned_own}
use Rattle.loads.proofs.work.add_files.Goals as goal

pub loop-number-preserved : goal.loop-number-preserved
loop-number-preserved g c =
    let files = batches_of_files c.args.files.now in
    let at = c.loop-number in
    let old = c.args.worker.now in
    let new = c.add_batches-added.new.worker in
    let bs = map arc_value c.batches.result.now in
    let there = value_at (λ (f : File). f.batches) c.args.files.now at.number c.index-files-number.result bs c.loop-number-test.true c.index-files-number.is c.batches.ensures.value in record {
      appended = subst (λ l. HasAppended l old new) (sym (planned_own c.args.count c.args.place at.number files bs there c.if-number-count.false))
          (appended_then (planned (take at.number files) c.args.count c.args.place) bs old at.worker new at.invariant.appended c.in_default.ensures.appended);
      first = c.add_batches-added.ensures.first;
      last = c.in_default.ensures.newest;
    }

pub returns-in-Err : goal.returns-in-Err
returns-in-Err g c =
    let files = batches_of_files c.args.files.now in
    let at = c.loop-number in
    let old = c.args.worker.now in
    let new = c.add_batches-added.new.worker in
    let bs = map arc_value c.batches.result.now in
    let there = value_at (λ (f : File). f.batches) c.args.files.now at.number c.index-files-number.result bs c.loop-number-test.true c.index-files-number.is c.batches.ensures.value in
    let same = get_or_from_slice_get files at.number bs [] there in
    let stop = c.in-Err.ensures in
    subst (IsRun files c.args.count c.args.place old new) (sym c.new.ensures) (record {
      stopped = record {
        file = slice_get_within files at.number bs there;
        own = c.if-number-count.false;
        batch = stop.stopped.0;
        there = ap (λ l. slice_get l c.in-Err.batch) same ∙ stop.stopped.1;
        stands = stop.stopped.2;
      };
      loaded = subst (λ l. Loaded (planned (take at.number files) c.args.count c.args.place ++ take c.in-Err.batch l) old new) (sym same) (at.invariant.appended (take c.in-Err.batch bs) new stop.loaded);
      last = stop.last ∙ ap (λ m. nat_lt m (calls_of_hand new)) c.calls-first.ensures;
      newest = λ none. absurd (cc none);
    })

pub loop-number-preserved-then-number-count : goal.loop-number-preserved-then-number-count
loop-number-preserved-then-number-count g c =
    let at = c.loop-number in
    let f = c.index-files-number.result in
    let there = value_at (λ (f : File). f.batches) c.args.files.now at.number f f.batches c.loop-number-test.true c.index-files-number.is refl in record {
      appended = subst (λ l. HasAppended l c.args.worker.now at.worker) (sym (planned_other c.args.count c.args.place at.number (batches_of_files c.args.files.now) f.batches there c.if-number-count.true)) at.invariant.appended;
      first = at.invariant.first;
      last = at.invariant.last;
    }

pub returns : goal.returns
returns g c =
    let files = batches_of_files c.args.files.now in
    let at = c.loop-number in
    let old = c.args.worker.now in
    let all = take_all at.number files (omega (arith, c.loop-number-test.false, length-map c.args.files.now (λ (f : File). f.batches))) in
    subst (IsRun files c.args.count c.args.place old at.worker) (sym c.new-2.ensures) (record {
      stopped = tt;
      loaded = appended_end (planned files c.args.count c.args.place) old at.worker at.worker (subst (λ fs. HasAppended (planned fs c.args.count c.args.place) old at.worker) all at.invariant.appended)
          (record { number = refl; calls = refl; rows = refl; mine = sym c.tell.ensures.wide; columns = refl; begun = c.tell.ensures.part.begun });
      last = grind (arith, nat_tests, at.invariant.last, c.calls-first.ensures);
      newest = λ none. at.invariant.last ∙ ap (λ m. seen_since m at.worker) c.calls-first.ensures;
    })
