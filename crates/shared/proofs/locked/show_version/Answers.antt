use Rattle.std.proofs.Common.{◌≡◌, ◌∙◌, ap, refl, sym}
use Rattle.std.specs.Arc.{arc_value}
use Rattle.std.specs.Prelude.{is_some}
use Rattle.shared.proofs.BalanceLemmas.{shows_same}
use Rattle.shared.proofs.SeenLemmas.{shown_next, some_each, some_then, then_each}
use Rattle.shared.specs.Changes.{known_after}
use Rattle.table.specs.Contents.{Contents}
use Rattle.shared.proofs.locked.show_version.Goals as goal

pub show-requires-clause-there : goal.show-requires-clause-there
show-requires-clause-there g c = ap is_some c.then_some-next.ensures ∙ some_then c.is_some.result c.args.version ∙ c.is_some.ensures

pub show-requires-clause-version : goal.show-requires-clause-version
show-requires-clause-version g c =
    some_each c.then_some-next.result (λ v shown. shows_same g.N.Naming-1.workers (known_after g.N.Naming-1.fields c.args.front.now) (arc_value c.args.version) (arc_value v) c.requires shown)
    (then_each arc_value c.is_some.result c.then_some-next.result c.args.version (arc_value c.args.version) c.then_some-next.ensures refl)

pub returns-clause-shown : goal.returns-clause-shown
returns-clause-shown g c =
    let there : is_some c.then_some-next.result ≡ is_some c.show.new.publisher =
    ap is_some c.then_some-next.ensures ∙ some_then c.is_some.result c.args.version ∙ c.is_some.ensures ∙ sym c.show.ensures.same in
    shown_next (λ p (t : Contents). g.P.Publish.shows p (record { contents = t; number = c.show.new.number })) arc_value c.then_some-next.result c.show.new.publisher (arc_value c.args.version) there
    (then_each arc_value c.is_some.result c.then_some-next.result c.args.version (arc_value c.args.version) c.then_some-next.ensures refl)
    c.show.ensures.shown
