use Rattle.std.proofs.Common.{◌∙◌, ap}
use Rattle.std.proofs.lemmas.Result.{IfOk-weaker}
use Rattle.types.specs.Kind as kind
use Rattle.arrays.specs.Prelude.{SizedColumn, cut, shown}
use Rattle.arrays.proofs.LaidLemmas.{shown-lists}
use Rattle.arrays.proofs.builder.lists.ListBuilder.finish.Goals as goal

pub returns : goal.returns
returns c =
    let s = c.self.inside in
    let slots = c.in_ok-slots.slots in
    let child = c.args.child in
    IfOk-weaker c.from_list.result _ _
    (λ a is. is
    ∙ shown-lists slots.width s.slots.lengths slots.len slots.validity slots.offsets child c.in_ok-slots.ensures.laid
    ∙ ap (λ w. shown (kind.lists w child.kind) (cut s.slots.lengths child.items)) c.in_ok-slots.ensures.width
    ∙ ap (λ (q : SizedColumn). shown (kind.lists q.width child.kind) (cut q.lengths child.items)) c.self.view_is)
    c.from_list.ensures
