use Rattle.std.proofs.Common.{◌∙◌, ◌∷◌, [], ap, arith, map}
use Rattle.std.proofs.lemmas.List.{map-append}
use Rattle.group.specs.Scalars.{item_of_scalar}
use Rattle.answers.specs.Answers.{group_shape}
use Rattle.tallies.specs.Columns.{show_column, cell_of_group}
use Rattle.answers.specs.declared.groups.Group.{Group}
use Rattle.answers.proofs.ReportedLemmas.{reported_next}
use Rattle.answers.proofs.telling.tell_in_turn.Goals as goal

pub loop-id-preserved : goal.loop-id-preserved
loop-id-preserved c =
    let n = c.loop-id.id in
    let new : Group = record { keys = c.in_ok-keys.keys; cells = c.in_ok-cells.cells } in
    reported_next c.args.grouping.now c.args.from n (map item_of_scalar c.in_ok-keys.keys.items) (map item_of_scalar c.in_ok-cells.cells.items)
    (map group_shape c.loop-id.groups.items) (map group_shape c.push.new.self.items) (omega (arith, c.loop-id.auto.id)) c.in_ok-keys.ensures
    (c.in_ok-cells.ensures ∙ ap (λ l. map (cell_of_group n) (map show_column l)) c.deref.ensures.value)
    c.loop-id.invariant
    (ap (map group_shape) c.in_ok-push.ensures.items ∙ map-append group_shape c.loop-id.groups.items (new ∷ []))
