use Rattle.std.proofs.Common.{◌-◌, drop, refl, subst}
use Rattle.json_scan.specs.Spelling.{SpellsAt}
use Rattle.json_stream.proofs.ListLemmas.{child_alone}
use Rattle.json_stream.proofs.list.read_children.Goals as goal

pub returns-clause-ok : goal.returns-clause-ok
returns-clause-ok c =
    let read = c.in_ok-end.ensures.ok in
    let h = read.2 (refl, refl) in
    let one = child_alone _ (c.args.cursor.depth - 1) c.args.cursor.text.now read.0 c.read_array.new.visitor.child c.in-Some.value c.in-Some.is h.1 in
    (one.0, subst (λ d. SpellsAt c.args.cursor.depth (drop c.args.cursor.at c.args.cursor.text.now) d (drop c.in_ok-end.end c.args.cursor.text.now)) one.1 read.1, one.2)
