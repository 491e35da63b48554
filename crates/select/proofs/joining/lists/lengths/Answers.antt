use Rattle.std.proofs.Common.{◌∙◌, ◌++◌, ap, arith, map, sym}
use Rattle.std.specs.Prelude.{flat_map}
use Rattle.arrays.specs.Prelude.{Seen, list_length}
use Rattle.select.proofs.JoinLemmas.{lengths-room, lengths_by_column, past-column}
use Rattle.select.proofs.ListLemmas.{full_of_all}
use Rattle.select.proofs.joining.lists.lengths.Goals as goal

pub loop-view-init : goal.loop-view-init
loop-view-init c =
    record {
      width = c.in_ok-builder.ensures.width;
      lengths = ap (λ l. l ++ flat_map (λ (s : Seen). map list_length s.items) c.args.views.now) c.in_ok-builder.ensures.empty ∙ sym (lengths_by_column c.args.views.now);
    }

pub push_all-requires-clause-room : goal.push_all-requires-clause-room
push_all-requires-clause-room c =
    omega (arith, lengths-room c.args.views.now c.loop-view.view-index c.view-item.result c.loop-view.builder.lengths c.loop-view-test.true c.view-item.is c.loop-view.invariant.lengths, c.requires.slots, c.requires.short)

pub returns-in_err-push_all-clause-err : goal.returns-in_err-push_all-clause-err
returns-in_err-push_all-clause-err c =
    full_of_all c.from_residual-in_err-push_all.result c.in_err-push_all.field-0.0 _ _ c.from_residual-in_err-push_all.ensures.1 c.in_err-push_all.ensures.err
    (past-column c.args.views.now c.loop-view.view-index c.view-item.result c.loop-view.builder.lengths c.loop-view-test.true c.view-item.is c.loop-view.invariant.lengths)
