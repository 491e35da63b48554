use Rattle.std.proofs.Common.{arith}
use Rattle.json_scan.proofs.Strings.{at_u, at_short, escaped_over}
use Rattle.json_scan.proofs.text.read_escape.Goals as goal

pub returns-then-text-at-eq117-clause-content : goal.returns-then-text-at-eq117-clause-content
returns-then-text-at-eq117-clause-content c = rw (at_u c.args.text.now c.args.at (omega arith) (omega arith)) c.read_code_point.ensures.content

pub returns-then-text-at-eq117-clause-passed : goal.returns-then-text-at-eq117-clause-passed
returns-then-text-at-eq117-clause-passed c = rw (escaped_over c.args.text.now c.args.at (omega arith)) c.read_code_point.ensures.passed

pub returns-clause-content : goal.returns-clause-content
returns-clause-content c = at_short c.args.text.now c.args.at c.in_ok-value.value (omega arith) (omega arith) c.in_ok-value.ensures.value c.in_ok-value.ensures.ascii

pub returns-clause-passed : goal.returns-clause-passed
returns-clause-passed c = escaped_over c.args.text.now c.args.at (omega arith)
