use Rattle.std.proofs.Common.{◌≡◌, false, drop, Some, refl, sym, subst, rules}
use Rattle.json_scan.specs.Prelude.{SpellsAt, before, begins_colon, between, lex}
use Rattle.json_read.specs.Prelude.{array, no_items}
use Rattle.json_stream.specs.Column.{StandsOn}
use Rattle.json_file.proofs.catalog.entries_at.Goals as goal

pub returns-then-ends_in : goal.returns-then-ends_in
returns-then-ends_in c =
    let read = c.in_ok-entries.ensures.ok in
    let text = c.args.text.now in
    let place = c.in-Some.place in
    let end = c.in_ok-entries.entries.end in
    let d = array (before read.0 no_items) in
    let ends : end ≡ place.end = search rules in
    let apart : begins_colon (lex between (drop end text)) ≡ false = search rules in
    let stands : StandsOn c.args.depth text (Some d) (Some place) =
    (d, refl, subst (λ e. SpellsAt c.args.depth (drop place.start text) d (drop e text)) ends read.1, subst (λ e. begins_colon (lex between (drop e text)) ≡ false) ends apart) in
    (read.0, subst (StandsOn c.args.depth text (Some d)) (sym c.in-Some.is) stands, read.2)
