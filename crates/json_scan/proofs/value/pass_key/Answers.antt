use Rattle.std.proofs.Common.{arith}
use Rattle.json_scan.proofs.Strings.{key_spells}
use Rattle.json_scan.proofs.value.pass_key.Goals as goal

pub returns-then-byte_at-eq58-clause-reads : goal.returns-then-byte_at-eq58-clause-reads
returns-then-byte_at-eq58-clause-reads c =
    let s = c.in_ok-string_end.ensures.reads in
    (s.0, key_spells c.args.text.now c.args.at c.after_space-quote.result c.in_ok-string_end.field-0 c.after_space-colon.result s.0 c.after_space-quote.ensures.same (omega arith) s.1 c.after_space-colon.ensures.same (omega arith))
