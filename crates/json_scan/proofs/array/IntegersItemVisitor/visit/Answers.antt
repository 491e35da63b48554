use Rattle.std.proofs.Common.{rules}
use Rattle.std.specs.Int.{w128}
use Rattle.std.proofs.lemmas.Int.{to_z-of_z}
use Rattle.serde_json.specs.Data.{number}
use Rattle.json_scan.proofs.Arrays.{another_integer}
use Rattle.json_scan.proofs.array.IntegersItemVisitor.visit.Goals as goal

pub returns-clause-ok : goal.returns-clause-ok
returns-clause-ok c =
    let n = rw c.as_bytes.ensures.value at c.in-Some.ensures.reads in
    (number n.0, n.2 c.args._depth, λ first ds are. rw (c.in_ok-push.ensures, to_z-of_z w128 c.in-Some.read.value (search rules)) (another_integer ds c.args.self.now.values.items n.0 c.in-Some.read.value are n.1))
