use Rattle.std.proofs.Common.{◌≡◌, ◌∙◌, ◌-◌, ap, arith, map, subst}
use Rattle.std.specs.Prelude.{IfOk}
use Rattle.std.proofs.lemmas.List.{map-append}
use Rattle.answers.specs.Prelude.{group_shape, groups_from}
use Rattle.answers.proofs.ReportedLemmas.{reported_parts}
use Rattle.answers.proofs.telling.+telling.Goals as goal

pub returns : goal.returns
returns g t c =
    let whole = c.args.grouping.now in
    let from = c.args.from in
    let to = c.args.to in
    let middle = to - c.share_of.result in
    let front = c.in_ok-groups.groups.items in
    let back = c.in_ok-late.field-0.items in
    reported_parts whole from middle to (map group_shape front) (map group_shape back) (map group_shape c.append.new.self.items) (omega arith) (omega (arith, c.requires.order, c.share_of.ensures))
    (subst (λ r. IfOk r (λ v. map group_shape v.items ≡ groups_from whole from (middle - from))) c.in_ok-groups.was c.join-late.ensures.second)
    (subst (λ r. IfOk r (λ v. map group_shape v.items ≡ groups_from whole middle (to - middle))) c.in_ok-late.was c.join-late.ensures.first)
    (ap (map group_shape) c.in_ok-append.ensures.items ∙ map-append group_shape front back)
