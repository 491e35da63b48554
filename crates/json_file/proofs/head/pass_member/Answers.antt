use Rattle.std.proofs.Common.{drop, sym, subst}
use Rattle.json_scan.specs.Spelling.{SpellsAt}
use Rattle.json_file.proofs.head.pass_member.Goals as goal

pub returns-clause-stands : goal.returns-clause-stands
returns-clause-stands c =
    let read = c.in_ok-end.ensures.ok in
    let at = c.args.cursor in
    let place = c.in_ok-place.ensures in
    (read.0, subst (λ e. SpellsAt at.depth (drop at.at at.text.now) read.0 (drop e at.text.now)) (sym place.end) read.1, place.stands read.0 read.1)
