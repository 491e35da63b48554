use Rattle.std.proofs.Common.{◌∙◌, ap, sym, length, arith}
use Rattle.layout.specs.Seen.{Seen, part}
use Rattle.arrays.specs.View.{read_view}
use Rattle.arrays.proofs.ViewLemmas.{length-show_view}
use Rattle.layout.proofs.SeenLemmas.{part-part}
use Rattle.arrays.proofs.view.View.slice.Goals as goal

pub overflow_add-result : goal.overflow_add-result
overflow_add-result c =
    let len = sym (length-show_view c.self.inside c.self.invariant.within) ∙ ap (λ (s : Seen). length s.items) c.self.view_is in
    omega (arith, len)

pub invariant_of-result : goal.invariant_of-result
invariant_of-result c =
    let len = sym (length-show_view c.self.inside c.self.invariant.within) ∙ ap (λ (s : Seen). length s.items) c.self.view_is in
    record {
      lawful = c.self.invariant.lawful;
      within = omega (arith, len);
      few = c.self.invariant.few;
    }

pub returns : goal.returns
returns c =
    let v = c.self.inside in
    let len = sym (length-show_view v c.self.invariant.within) ∙ ap (λ (s : Seen). length s.items) c.self.view_is in
    sym (part-part (read_view v).seen v.start v.len c.args.start c.args.len (omega (arith, len)))
    ∙ ap (part c.args.start c.args.len) c.self.view_is
