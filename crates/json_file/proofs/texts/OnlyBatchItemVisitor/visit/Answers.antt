use Rattle.std.proofs.Common.{◌≡◌, None, rules}
use Rattle.json_file.proofs.TextLemmas.{batch_taken}
use Rattle.json_file.proofs.texts.OnlyBatchItemVisitor.visit.Goals as goal

pub returns-clause-ok : goal.returns-clause-ok
returns-clause-ok c =
    let read = c.in_ok-texts.ensures.ok in
    let none : c.args.self.now.texts ≡ None = search rules in
    (read.0, read.1, λ first ds h. batch_taken ds read.0 c.args.self.now.texts c.in_ok-texts.texts.value none h read.2)
