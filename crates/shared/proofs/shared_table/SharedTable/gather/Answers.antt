use Rattle.std.proofs.Common.{◌∙◌, subst, sym}
use Rattle.std.specs.Prelude.{All}
use Rattle.shared.specs.Prelude.{AllThere, HasAllItsPairs, known_of}
use Rattle.std.specs.Arc.{arc_value}
use Rattle.shared.proofs.shared_table.SharedTable.gather.Goals as goal

pub returns-in-Ok-clause-whole : goal.returns-in-Ok-clause-whole
returns-in-Ok-clause-whole g c = subst (λ ws. All (HasAllItsPairs (known_of (arc_value c.in-Ok.version))) ws) c.deref_mut.ensures.value c.in-Ok.ensures.whole

pub all_of-requires-clause-all : goal.all_of-requires-clause-all
all_of-requires-clause-all g c =
    subst (λ ws. AllThere c.args.self ws) (c.deref.ensures.value ∙ sym c.deref_mut.ensures.value) (subst (λ n. AllThere n c.deref.result.now) c.self.view_is c.in_default.ensures.reported)
