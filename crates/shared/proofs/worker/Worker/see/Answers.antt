use Rattle.std.proofs.Common.{List, ap, length, subst, sym, ◌∙◌}
use Rattle.shared.specs.Prelude.{Change, Hand, InOrder, IsBeginning, IsLegalKnown, fields_after, having_seen, known_after, pairs_in}
use Rattle.shared.proofs.KnownLemmas.{known_begins}
use Rattle.shared.proofs.PartLemmas.{part_wider}
use Rattle.shared.proofs.ViewLemmas.{hand_after, seen_after}
use Rattle.table.specs.Prelude.{of, widened}
use Rattle.shared.proofs.worker.Worker.see.Goals as goal

pub invariant_of-self : goal.invariant_of-self
invariant_of-self g c =
    let is = c.self.invariant in
    let w = c.self.inside in
    let first = g.N.Naming-1.fields in
    let front = c.args.front.now in
    let begun : IsBeginning (known_after first w.seen) (known_after first front) = known_begins first w.seen front c.begin.ensures in record {
      call_count = is.call_count;
      row_count = is.row_count;
      column_count = is.column_count;
      call_part = is.call_part;
      row_part = is.row_part;
      column_part = is.column_part;
      number = is.number;
      own_calls = is.own_calls;
      own_rows = is.own_rows;
      order = subst (λ (l : List Change). InOrder (widened (length (fields_after first l)) (pairs_in w.mine)) (of (known_after first l).history w.number)) (sym c.again.ensures)
          (part_wider (known_after first w.seen) (known_after first front) (pairs_in w.mine) w.number begun is.order);
      legal = subst (λ (l : List Change). IsLegalKnown (known_after first l)) (sym c.again.ensures) c.requires;
    }

pub returns-clause-begun : goal.returns-clause-begun
returns-clause-begun g c =
    let first = g.N.Naming-1.fields in
    subst (λ (h : Hand). IsBeginning h.seen (known_after first c.args.front.now)) c.self.view_is (known_begins first c.self.inside.seen c.args.front.now c.begin.ensures)

pub returns-clause-seen : goal.returns-clause-seen
returns-clause-seen g c =
    let first = g.N.Naming-1.fields in
    let w = c.self.inside in
    let front = c.args.front.now in
    ap (λ (l : List Change). hand_after first w.number l w.mine w.column_count w.left) c.again.ensures
    ∙ seen_after first w.number w.seen front w.mine w.column_count w.left (known_begins first w.seen front c.begin.ensures)
    ∙ ap (having_seen (known_after first front)) c.self.view_is
