use Rattle.std.proofs.Common.{le-ltb, lt-ltb}
use Rattle.keys.proofs.CodeSetLemmas.{first_reported, second_reported}
use Rattle.keys.proofs.code_set.put_end.Goals as goal

pub returns-then-code-lt-NEAR-clause-put : goal.returns-then-code-lt-NEAR-clause-put
returns-then-code-lt-NEAR-clause-put c =
    first_reported c.args.numbers.now.items c.args.others.now.items c.put_at.new.ends.items c.args.code c.args.end c.put_at.result (lt-ltb _ _ c.if-code-lt-NEAR.true) c.put_at.ensures.put

pub returns-else-code-lt-NEAR-clause-put : goal.returns-else-code-lt-NEAR-clause-put
returns-else-code-lt-NEAR-clause-put c =
    second_reported c.args.numbers.now.items c.args.others.now.items c.put_at-else-code-lt-NEAR.new.ends.items c.args.code c.args.end c.put_at-else-code-lt-NEAR.result (le-ltb _ _ c.if-code-lt-NEAR.false)
    c.put_at-else-code-lt-NEAR.ensures.put
