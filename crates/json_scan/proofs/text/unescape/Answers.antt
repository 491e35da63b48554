use Rattle.std.proofs.Common.{slice_range, ◌∙◌, sym, arith}
use Rattle.std.specs.Char.{encode_utf8}
use Rattle.json_scan.proofs.Lexemes.{byte_stands}
use Rattle.json_scan.proofs.Strings.{string_run, string_escape, string_ends}
use Rattle.json_scan.proofs.text.unescape.Goals as goal

pub returns-in-34-clause-ok : goal.returns-in-34-clause-ok
returns-in-34-clause-ok c =
    let d = c.args.text.now in
    let at = c.runs in
    let stop = c.plain_end-stop.result in
    let quote = byte_stands d stop 34 (sym c.byte_at.ensures.value ∙ c.in-34.is) (λ e. omega arith) in
    let t = string_run d c.args.at at.buffer.items at.end at.invariant.so_far (slice_range d at.end stop) stop c.plain_end-stop.ensures.content c.plain_end-stop.ensures.passed in
    rw c.in-Ok.ensures.items (string_ends d c.args.at _ stop t quote.0 quote.1)

pub runs-preserved : goal.runs-preserved
runs-preserved c =
    let d = c.args.text.now in
    let at = c.runs in
    let stop = c.plain_end-stop.result in
    let read = c.in-Some in
    let slash = byte_stands d stop 92 (sym c.byte_at.ensures.value ∙ c.in-92.is) (λ e. omega arith) in
    let t = string_run d c.args.at at.buffer.items at.end at.invariant.so_far (slice_range d at.end stop) stop c.plain_end-stop.ensures.content c.plain_end-stop.ensures.passed in
    record {
      onward = omega (arith, read.ensures.within, c.plain_end-stop.ensures.onward, at.invariant.onward);
      within = read.ensures.within.1;
      so_far =
          rw (c.in-Ok-extend_from_slice.ensures.items, c.as_bytes.ensures.value, c.encode_utf8-character.ensures.value, c.in-Ok.ensures.items)
          (string_escape d c.args.at _ stop t (encode_utf8 read.escape.value) read.escape.end slash.0 slash.1 read.ensures.content read.ensures.passed);
    }
