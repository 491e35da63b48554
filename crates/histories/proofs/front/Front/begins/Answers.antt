use Rattle.std.proofs.Common.{◌≤◌, List, ap, arith, length, subst}
use mathlib.Core.List.{IsPrefix}
use Rattle.histories.proofs.PrefixLemmas.{prefix_shared}
use Rattle.histories.proofs.front.Front.begins.Goals as goal

pub returns : goal.returns
returns g c =
    let both = c.learn.new.self.log in
    let begun : IsPrefix c.self.inside.seen.log both = subst (λ (l : List g.row.E.Denot). IsPrefix l both) (ap (λ s. s.log) c.again-both.ensures) c.learn.ensures.2 in
    let few : length c.self.inside.seen.log ≤ length c.other.inside.seen.log = omega (arith, c.self.invariant.count, c.other.invariant.count, c.if-other-self.false) in
    rw (← c.self.view_is, ← c.other.view_is) (prefix_shared c.self.inside.seen.log c.other.inside.seen.log both begun c.learn.ensures.3 few)
