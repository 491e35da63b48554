use Rattle.std.proofs.Common.{◌≡◌, ◌+◌, drop, get_or, arith}
use Rattle.std.proofs.lemmas.Str.{IsCharBoundary-after_ascii}
use Rattle.json_scan.proofs.Lexemes.{byte_stands}
use Rattle.json_scan.proofs.Strings.{plain_text, text_spells}
use Rattle.json_scan.proofs.text.read_plain_text.Goals as goal

pub range-requires-clause-start_boundary : goal.range-requires-clause-start_boundary
range-requires-clause-start_boundary c some =
    let d = c.args.text.now in
    let quote = c.after_space-quote.result in
    let q : get_or d quote 32 ≡ 34 = rw (← c.as_bytes-bytes.ensures.value) (omega arith) in
    let first = byte_stands d quote 34 q (λ e. omega arith) in
    IsCharBoundary-after_ascii d quote c.utf8.text first.0 (omega (arith, first.1))

pub returns-clause-lexeme : goal.returns-clause-lexeme
returns-clause-lexeme c =
    let d = c.args.text.now in
    let same = c.as_bytes-bytes.ensures.value in
    let quote = c.after_space-quote.result in
    let stop = c.plain_end-stop.result in
    let q : get_or d quote 32 ≡ 34 = rw (← same) (omega arith) in
    let close : get_or d stop 32 ≡ 34 = rw (← same) (omega arith) in
    rw c.range.ensures.value (plain_text d c.args.at quote stop (rw same at c.after_space-quote.ensures.same) q (rw same at c.plain_end-stop.ensures.content) (rw same at c.plain_end-stop.ensures.passed) close)

pub returns-clause-reads : goal.returns-clause-reads
returns-clause-reads c =
    let d = c.args.text.now in
    text_spells (drop c.args.at d) (drop (c.plain_end-stop.result + 1) d) c.range.result.now (returns-clause-lexeme c)
