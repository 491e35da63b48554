use Rattle.std.proofs.Common.{subst, sym}
use Rattle.select.specs.Joined.{AreNumbersOf, TellsNulls}
use Rattle.arrays.specs.Lengths.{joined_items}
use Rattle.std.proofs.Common.{take}
use Rattle.select.proofs.JoinLemmas.{All-more}
use Rattle.select.proofs.JoinedNumbers.{AreNumbersOf-more, TellsNulls-numbers, joined-more}
use Rattle.select.proofs.joining.numbers.joined_numbers.Goals as goal

pub loop-view-preserved : goal.loop-view-preserved
loop-view-preserved c =
    let t = c.args.ty in
    let views = c.args.views.now in
    let k = c.loop-view.view-index in
    let s = c.view-item.result in
    let here = c.numbers.result.now in
    let longer = c.extend_from_slice.new.self.items in
    record {
      numbers =
          subst (λ xs. AreNumbersOf t xs longer) (sym (joined-more views k s c.loop-view-test.true c.view-item.is))
          (AreNumbersOf-more t (joined_items (take k views)) s c.loop-view.values.items here longer c.loop-view.invariant.numbers c.numbers.ensures c.in_ok-extend_from_slice.ensures.items);
      reported = All-more TellsNulls views k s c.loop-view-test.true c.view-item.is c.loop-view.invariant.reported (TellsNulls-numbers t here s c.numbers.ensures);
    }
