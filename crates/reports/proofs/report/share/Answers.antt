use Rattle.std.proofs.Common.{arith}
use Rattle.reports.proofs.ReportLemmas.{share_at}
use Rattle.reports.proofs.report.share.Goals as goal

pub loop-place-preserved : goal.loop-place-preserved
loop-place-preserved c =
    let e = c.book_at-entry.result in
    let one = share_at c.args.version.now.history c.loop-place.place c.args.worker (e.worker, e.rows) c.book_at-entry.ensures in
    let more = c.counted-more_calls.ensures in record {
      calls = omega (arith, one.0, more.calls, c.loop-place.invariant.calls);
      rows = omega (arith, one.1, more.rows, c.loop-place.invariant.rows);
      few = omega (arith, more.few.0, c.loop-place.invariant.few);
      small = omega (arith, more.few.1, c.loop-place.invariant.small);
    }
