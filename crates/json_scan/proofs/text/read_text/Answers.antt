use Rattle.std.proofs.Common.{◌≡◌, drop, get_or, rules, arith}
use Rattle.json_scan.proofs.Strings.{text_lexed, text_spells}
use Rattle.json_scan.proofs.text.read_text.Goals as goal

pub returns-in-Ok-clause-lexeme : goal.returns-in-Ok-clause-lexeme
returns-in-Ok-clause-lexeme c =
    let d = c.args.text.now in
    let same = c.as_bytes-bytes.ensures.value in
    let quote = c.after_space-quote.result in
    let q : get_or d quote 32 ≡ 34 = rw (← same) (omega arith) in
    let is : c.in-Ok.value.now ≡ c.unescape.new.buffer.items = search rules in
    rw is (text_lexed d c.args.at quote c.unescape.new.buffer.items (drop c.in_ok-end.end d) (rw same at c.after_space-quote.ensures.same) q (rw same at c.in_ok-end.ensures.ok))

pub returns-in-Ok-clause-reads : goal.returns-in-Ok-clause-reads
returns-in-Ok-clause-reads c =
    let d = c.args.text.now in
    text_spells (drop c.args.at d) (drop c.in_ok-end.end d) c.in-Ok.value.now (returns-in-Ok-clause-lexeme c)
