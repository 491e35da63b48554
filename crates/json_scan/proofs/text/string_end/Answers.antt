use Rattle.std.proofs.Common.{slice_range, ◌∙◌, sym, arith}
use Rattle.json_scan.proofs.Lexemes.{byte_stands}
use Rattle.json_scan.proofs.Strings.{string_run, string_escape, string_ends}
use Rattle.json_scan.proofs.text.string_end.Goals as goal

pub returns-in-34-clause-reads : goal.returns-in-34-clause-reads
returns-in-34-clause-reads c =
    let d = c.args.text.now in
    let s = c.runs.invariant.so_far in
    let stop = c.plain_end-end.result in
    let quote = byte_stands d stop 34 (sym c.byte_at.ensures.value ∙ c.in-34.is) (λ e. omega arith) in
    let t = string_run d c.args.at s.0 c.runs.end s.1 (slice_range d c.runs.end stop) stop c.plain_end-end.ensures.content c.plain_end-end.ensures.passed in
    (_, string_ends d c.args.at _ stop t quote.0 quote.1)

pub runs-preserved : goal.runs-preserved
runs-preserved c =
    let d = c.args.text.now in
    let s = c.runs.invariant.so_far in
    let stop = c.plain_end-end.result in
    let r = c.in_ok-end-in-92 in
    let slash = byte_stands d stop 92 (sym c.byte_at.ensures.value ∙ c.in-92.is) (λ e. omega arith) in
    let t = string_run d c.args.at s.0 c.runs.end s.1 (slice_range d c.runs.end stop) stop c.plain_end-end.ensures.content c.plain_end-end.ensures.passed in
    record {
      onward = omega (arith, r.ensures.within, c.plain_end-end.ensures.onward, c.runs.invariant.onward);
      within = r.ensures.within.1;
      so_far = (_, string_escape d c.args.at _ stop t _ r.field-0.end slash.0 slash.1 r.ensures.content r.ensures.passed);
    }
