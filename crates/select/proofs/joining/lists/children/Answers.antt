use Rattle.std.proofs.Common.{◌∙◌, sym}
use Rattle.arrays.specs.Prelude.{Narrow, kind_of, out-Field}
use Rattle.arrays.specs.Kind as kind
use Rattle.select.proofs.ChosenLemmas.{item-is}
use Rattle.select.proofs.JoinLemmas.{AreChildren-more, item-here, too_big-list, too_big-of_all}
use Rattle.select.proofs.ListLemmas.{full_of_all}
use Rattle.select.proofs.joining.lists.children.Goals as goal

pub returns-in_err-child_of-clause-err : goal.returns-in_err-child_of-clause-err
returns-in_err-child_of-clause-err c =
    let k = kind_of (out-Field c.args.item.now).ty in
    let s = c.view-item.result in
    let same = item-here k c.args.views.now c.loop-view.view-index s c.loop-view-test.true c.view-item.is c.requires in
    full_of_all c.from_residual-in_err-child_of.result c.in_err-child_of.field-0.0 _ _ c.from_residual-in_err-child_of.ensures.1 c.in_err-child_of.ensures.err
    (λ big. too_big-of_all (kind.lists Narrow k) c.args.views.now c.loop-view.view-index s c.loop-view-test.true c.view-item.is (sym (too_big-list s.kind k s.items same) ∙ big))

pub loop-view-preserved : goal.loop-view-preserved
loop-view-preserved c =
    let k = kind_of (out-Field c.args.item.now).ty in
    let s = c.view-item.result in
    let child = c.in_ok-child_of.field-0 in
    let same = item-here k c.args.views.now c.loop-view.view-index s c.loop-view-test.true c.view-item.is c.requires in
    AreChildren-more k c.args.views.now c.loop-view.children.items c.push.new.self.items c.loop-view.view-index s child c.loop-view-test.true c.view-item.is
    c.loop-view.invariant c.in_ok-child_of.ensures.ok (item-is child.kind k (sym c.in_ok-child_of.ensures.ok.kind ∙ same)) c.in_ok-push.ensures.items
