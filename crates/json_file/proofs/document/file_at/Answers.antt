use Rattle.std.proofs.Common.{◌≡◌, drop, subst, rules}
use Rattle.json_scan.specs.Spelling.{SpellsAt}
use Rattle.json_stream.specs.Column.{StandsOn}
use Rattle.json_file.proofs.DocumentLemmas.{placed_file}
use Rattle.json_file.proofs.document.file_at.Goals as goal

pub returns-then-read-place : goal.returns-then-read-place
returns-then-read-place c =
    let read = c.in_ok-read.ensures.ok in
    let place = c.in-Some.place in
    let ends : c.in_ok-read.read.end ≡ place.end = search rules in
    let spelled = subst (λ e. SpellsAt c.args.depth (drop place.start c.args.text.now) read.0 (drop e c.args.text.now)) ends read.1 in
    λ found stands. (read.2.0, read.2.1, placed_file c.args.depth c.args.text.now found place read.0 read.2.0 _ (subst (StandsOn c.args.depth c.args.text.now found) c.in-Some.is stands) spelled read.2.2)
