use Rattle.std.proofs.Common.{◌≡◌, get_or, arith}
use Rattle.json_scan.proofs.Strings.{key_lexed}
use Rattle.json_scan.proofs.text.read_key.Goals as goal

pub returns-clause-reads : goal.returns-clause-reads
returns-clause-reads c =
    let d = c.args.text.now in
    let same = c.as_bytes-bytes.ensures.value in
    let mark = c.after_space-colon.result in
    let colon : get_or d mark 32 ≡ 58 = rw (← same) (omega arith) in
    key_lexed d c.args.at c.in_ok-key.key.end mark c.in_ok-key.key.value.now c.in_ok-key.ensures.lexeme (rw same at c.after_space-colon.ensures.same) colon
