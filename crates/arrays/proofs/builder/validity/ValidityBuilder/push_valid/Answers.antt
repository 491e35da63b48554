use Rattle.std.proofs.Common.{sym, ◌∙◌}
use Rattle.std.proofs.lemmas.Bool.{eqb-true}
use Rattle.arrays.proofs.SlotsLemmas.{replicate-more}
use Rattle.arrays.proofs.builder.validity.ValidityBuilder.push_valid.Goals as goal

pub returns-then-is_empty-clause-ok : goal.returns-then-is_empty-clause-ok
returns-then-is_empty-clause-ok c =
    let s = c.self.inside in
    replicate-more s.before c.args.count s.after c.args.self.now c.self.view_is (eqb-true _ 0 (sym c.is_empty.ensures ∙ c.if-is_empty.true))
