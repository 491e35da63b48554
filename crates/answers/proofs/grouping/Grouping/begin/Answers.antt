use Rattle.std.proofs.Common.{◌≡◌, None, subst, sym}
use Rattle.std.specs.Prelude.{All, OnOk}
use Rattle.query.specs.Prelude.{key_fault, query_shape, sort_at}
use Rattle.keys.specs.Memo.{KnowsEntries}
use Rattle.std.proofs.lemmas.Result.{on_ok_weaker}
use Rattle.answers.proofs.FitLemmas.{what_fits}
use Rattle.answers.proofs.grouping.Grouping.begin.Goals as goal

pub invariant_of-begin-clause-plain : goal.invariant_of-begin-clause-plain
invariant_of-begin-clause-plain c =
    subst (All (λ p. key_fault (sort_at c.args.batch.now.fields) p ≡ None)) (sym c.as_slice-by.ensures.value)
    (what_fits c.args.batch.now.fields (query_shape c.args.query.now) c.requires).by

pub returns-clause-kept : goal.returns-clause-kept
returns-clause-kept c = λ rows h. on_ok_weaker c.begin.result (λ r. (h.0, r)) (c.begin.ensures.kept c.args.self.now.keys h.1)

pub returns-clause-ready : goal.returns-clause-ready
returns-clause-ready c = λ rows h.
    subst (λ by. OnOk c.begin.result (KnowsEntries c.args.self.now.keys c.args.batch.now by c.begin.new.self)) c.as_slice-by.ensures.value
    (c.begin.ensures.entries c.args.self.now.keys h.1)
