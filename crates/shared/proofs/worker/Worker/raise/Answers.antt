use Rattle.std.proofs.Common.{◌≡◌, ◌∙◌, ◌++◌, ◌∷◌, [], List, ap, arith, length, length-append, refl, subst, sym}
use Rattle.arrays.specs.Batch.{rows_of}
use Rattle.shared.specs.Prelude.{Change, Hand, IsLegalKnown, having_added, known_after, pair_added, pairs_in}
use Rattle.shared.proofs.BalanceLemmas.{rows_pushed}
use Rattle.shared.proofs.KnownLemmas.{pairs_more}
use Rattle.shared.proofs.ViewLemmas.{added_after, hand_after, order_added}
use Rattle.table.specs.History.{History}
use Rattle.shared.proofs.worker.Worker.raise.Goals as goal

pub invariant_of-self : goal.invariant_of-self
invariant_of-self g c =
    let is = c.self.invariant in
    let w = c.self.inside in
    let first = g.N.Naming-1.fields in
    let b = c.args.accepted.now.batch.now in
    let number : c.args.accepted.now.worker ≡ w.number = c.requires.number ∙ sym (ap (λ (h : Hand). h.number) c.self.view_is) in
    let mine : c.add-3.new.self ≡ w.mine ++ pair_added (w.number, rows_of b) ∷ [] = c.add-3.ensures ∙ ap (λ n. w.mine ++ pair_added (n, rows_of b) ∷ []) number in
    let old : Hand = hand_after first w.number w.seen w.mine w.column_count w.left in
    let known : known_after first c.again.result ≡ (having_added (rows_of b) old).seen =
    ap (known_after first) c.again.ensures ∙ c.requires.front ∙ sym (ap (λ (h : Hand). (having_added (rows_of b) h).seen) c.self.view_is) in
    let legal : IsLegalKnown (known_after first c.again.result) = subst (λ (l : List Change). IsLegalKnown (known_after first l)) (sym c.again.ensures) c.requires.legal in
    let pairs : pairs_in c.add-3.new.self ≡ pairs_in w.mine ++ (w.number, rows_of b) ∷ [] = ap pairs_in mine ∙ pairs_more w.mine (w.number, rows_of b) in
    let shown = added_after first w.number w.seen c.again.result w.mine c.add-3.new.self w.column_count w.left (rows_of b) known mine legal in record {
      call_count = omega (arith, is.call_count, c.add.ensures.amount, c.audit.ensures.amount);
      row_count = omega (arith, is.row_count, c.add-2.ensures.amount, c.audit-2.ensures.amount, c.from-rows.ensures);
      column_count = is.column_count;
      call_part = omega (arith, is.call_part, c.add.ensures.parts, c.audit.ensures.parts);
      row_part = omega (arith, is.row_part, c.add-2.ensures.parts, c.audit-2.ensures.parts);
      column_part = is.column_part;
      number = is.number;
      own_calls = omega (arith, is.own_calls, c.add.ensures.amount, c.audit.ensures.amount, ap (λ (h : History). length h) pairs, length-append (pairs_in w.mine) ((w.number, rows_of b) ∷ []));
      own_rows = omega (arith, is.own_rows, c.add-2.ensures.amount, c.audit-2.ensures.amount, c.from-rows.ensures, c.rows.ensures, rows_pushed (pairs_in w.mine) (pairs_in c.add-3.new.self) w.number b pairs);
      order = order_added w.number (rows_of b) old (hand_after first w.number c.again.result c.add-3.new.self w.column_count w.left) shown refl is.order;
      legal = legal;
    }

pub returns-clause-raised : goal.returns-clause-raised
returns-clause-raised g c =
    let w = c.self.inside in
    let first = g.N.Naming-1.fields in
    let b = c.args.accepted.now.batch.now in
    let number : c.args.accepted.now.worker ≡ w.number = c.requires.number ∙ sym (ap (λ (h : Hand). h.number) c.self.view_is) in
    let mine : c.add-3.new.self ≡ w.mine ++ pair_added (w.number, rows_of b) ∷ [] = c.add-3.ensures ∙ ap (λ n. w.mine ++ pair_added (n, rows_of b) ∷ []) number in
    let old : Hand = hand_after first w.number w.seen w.mine w.column_count w.left in
    let known : known_after first c.again.result ≡ (having_added (rows_of b) old).seen =
    ap (known_after first) c.again.ensures ∙ c.requires.front ∙ sym (ap (λ (h : Hand). (having_added (rows_of b) h).seen) c.self.view_is) in
    let legal : IsLegalKnown (known_after first c.again.result) = subst (λ (l : List Change). IsLegalKnown (known_after first l)) (sym c.again.ensures) c.requires.legal in
    added_after first w.number w.seen c.again.result w.mine c.add-3.new.self w.column_count w.left (rows_of b) known mine legal ∙ ap (having_added (rows_of b)) c.self.view_is
