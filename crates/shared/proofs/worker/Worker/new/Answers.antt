use Rattle.std.proofs.Common.{◌∙◌, List, [], ap, length, subst, sym}
use Rattle.shared.specs.Prelude.{Change, InOrder, IsLegalKnown, fields_after, known_after, pairs_in}
use Rattle.shared.proofs.KnownLemmas.{legal_none}
use Rattle.table.specs.Prelude.{of, rows, widened}
use Rattle.shared.proofs.worker.Worker.new.Goals as goal

pub invariant_of-result : goal.invariant_of-result
invariant_of-result g c =
    let first = g.N.Naming-1.fields in
    let seen = c.args.seen in
    let none = c.new.ensures in record {
      call_count = sym c.requires.calls.1;
      row_count = sym c.requires.rows.1;
      column_count = sym c.requires.columns.1;
      call_part = c.requires.calls.0;
      row_part = c.requires.rows.0;
      column_part = c.requires.columns.0;
      number = c.requires.number;
      own_calls = ap (λ (l : List Change). length (pairs_in l)) none ∙ sym c.requires.calls.1;
      own_rows = ap (λ (l : List Change). length (rows (pairs_in l))) none ∙ sym c.requires.rows.1;
      order = subst (λ (l : List Change). InOrder (widened (length (fields_after first seen)) (pairs_in l)) (of (known_after first seen).history c.args.number)) (sym none) tt;
      legal = subst (λ (l : List Change). IsLegalKnown (known_after first l)) (sym c.requires.seen) (legal_none (fields_after first []));
    }
