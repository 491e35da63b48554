use Rattle.std.proofs.Common.{◌≡◌, ◌∙◌, Some, ap, sym, subst, rules}
use Rattle.json_stream.specs.Column.{StandsOn}
use Rattle.json_file.proofs.catalog.check_at.Goals as goal

pub returns-then-eq : goal.returns-then-eq
returns-then-eq c =
    let read = c.in_ok-passed.ensures.stands in
    let same : c.in_ok-passed.passed ≡ c.in-Some.place = search rules in
    (Some read.0, subst (StandsOn c.args.depth c.args.text.now (Some read.0)) (ap Some same ∙ sym c.in-Some.is) read.2)
