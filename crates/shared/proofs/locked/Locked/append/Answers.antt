use Rattle.std.proofs.Common.{◌≡◌, ◌∙◌, ◌∷◌, ◌++◌, [], ap, arith, length, length-append, subst, sym}
use Rattle.std.specs.Arc.{arc_value}
use Rattle.arrays.specs.Batch.{Batch, rows_of}
use Rattle.shared.proofs.BalanceLemmas.{balanced_push, shows_same, workers_push}
use Rattle.shared.proofs.KnownLemmas.{known_added}
use Rattle.shared.proofs.SeenLemmas.{added, room, seen_added, shown_next, some_each}
use Rattle.shared.specs.Prelude.{Hand, IsLegalKnown, Known, known_after, known_of}
use Rattle.table.specs.Contents.{Contents}
use Rattle.shared.proofs.locked.Locked.append.Goals as goal

pub raise-requires-clause-rows : goal.raise-requires-clause-rows
raise-requires-clause-rows g c =
    let s = c.self.inside.state in
    let few = room s.fields s.history c.args.ready c.in_ok-entry.ensures.allowed in
    omega (arith, few, c.self.invariant.counted.balanced.rows_counted, ap (λ (b : Batch). b.rows) (sym c.requires))

pub show-requires-clause-there : goal.show-requires-clause-there
show-requires-clause-there g c = c.in_ok-entry.ensures.shown ∙ c.is_some.ensures

pub see-requires : goal.see-requires
see-requires g c = subst IsLegalKnown (sym c.self.invariant.counted.shown.known) c.self.invariant.counted.legal

pub show-requires-clause-version : goal.show-requires-clause-version
show-requires-clause-version g c =
    let is = c.self.invariant in
    let reported = c.in_ok-entry.ensures in
    let s = c.self.inside.state in
    let next = c.admit.new.state in
    let worker = c.worker.inside.number in
    let known =
    known_added g.N.Naming-1.fields c.self.inside.front c.add.new.front s next worker c.args.batch.now c.args.ready is.counted.shown.known c.add.ensures.added c.requires reported.added reported.legal in
    let workers =
    workers_push s.history next.history worker (rows_of c.args.ready) g.N.Naming-1.workers is.counted.shown.workers (ap (λ (t : Contents). t.history) reported.added) c.worker.invariant.number in
    some_each c.in_ok-entry.next (λ v shown. shows_same g.N.Naming-1.workers (known_after g.N.Naming-1.fields c.add.new.front) next (arc_value v) (record { known = known; workers = workers }) shown)
    reported.version

pub raise-requires-clause-front : goal.raise-requires-clause-front
raise-requires-clause-front g c =
    let is = c.self.invariant in
    let reported = c.in_ok-entry.ensures in
    let first = g.N.Naming-1.fields in
    let w = c.self.inside in
    known_added first w.front c.add.new.front w.state c.admit.new.state c.worker.inside.number c.args.batch.now c.args.ready is.counted.shown.known c.add.ensures.added c.requires reported.added reported.legal
    ∙ seen_added (known_after first w.front) w.state c.admit.new.state c.args.batch.now c.args.ready c.worker.inside.number c.see.new.self
    is.counted.shown.known (ap (λ (h : Hand). h.seen) c.see.ensures.seen) (ap (λ (h : Hand). h.number) c.worker.view_is) c.requires reported.added

pub raise-requires-clause-legal : goal.raise-requires-clause-legal
raise-requires-clause-legal g c =
    let is = c.self.invariant in
    let reported = c.in_ok-entry.ensures in
    let known =
    known_added g.N.Naming-1.fields c.self.inside.front c.add.new.front c.self.inside.state c.admit.new.state c.worker.inside.number c.args.batch.now c.args.ready
    is.counted.shown.known c.add.ensures.added c.requires reported.added reported.legal in
    subst IsLegalKnown (sym known) reported.legal

pub new-requires : goal.new-requires
new-requires g c =
    let is = c.self.invariant in
    let reported = c.in_ok-entry.ensures in
    let first = g.N.Naming-1.fields in
    let s = c.self.inside.state in
    let known =
    known_added first c.self.inside.front c.add.new.front s c.admit.new.state c.worker.inside.number c.args.batch.now c.args.ready is.counted.shown.known c.add.ensures.added c.requires reported.added reported.legal in
    omega (
      arith,
      reported.number,
      ap (λ (k : Known). length k.history) (ap (known_after first) c.again.ensures ∙ known),
      ap (λ (t : Contents). length t.history) reported.added,
      length-append s.history ((c.worker.inside.number, rows_of c.args.ready) ∷ []),
    )

pub invariant_of-self-2 : goal.invariant_of-self-2
invariant_of-self-2 g c =
    let is = c.self.invariant in
    let reported = c.in_ok-entry.ensures in
    let s = c.self.inside.state in
    let next = c.admit.new.state in
    let worker = c.worker.inside.number in
    let b = c.args.ready in
    let same : next.history ≡ s.history ++ (worker, rows_of b) ∷ [] = ap (λ (t : Contents). t.history) reported.added in record {
      counted = record {
        balanced = balanced_push s.history next.history worker b c.self.inside.books.calls.total c.self.inside.books.rows.total c.raise.new.books.calls.total c.raise.new.books.rows.total c.args.batch.now.rows
            is.counted.balanced same c.raise.ensures.call_total c.raise.ensures.row_total (ap (λ (x : Batch). x.rows) (sym c.requires));
        shown = record {
          known = known_added g.N.Naming-1.fields c.self.inside.front c.add.new.front s next worker c.args.batch.now b is.counted.shown.known c.add.ensures.added c.requires reported.added reported.legal;
          workers = workers_push s.history next.history worker (rows_of b) g.N.Naming-1.workers is.counted.shown.workers same c.worker.invariant.number;
        };
        legal = reported.legal;
        widened_by = omega (arith, ap (λ (t : Contents). length t.fields) reported.added, is.counted.widened_by, c.raise.ensures.column_total);
      };
      newest = tt;
      shown = shown_next (λ p (t : Contents). g.P.Publish.shows p (record { contents = t; number = c.show.new.number })) arc_value c.in_ok-entry.next c.show.new.publisher next (reported.shown ∙ c.is_some.ensures ∙ sym c.show.ensures.same) reported.version c.show.ensures.shown;
      no_call_part = is.no_call_part;
      no_calls = is.no_calls;
      no_row_part = is.no_row_part;
      no_rows = is.no_rows;
      no_column_part = is.no_column_part;
      no_columns = is.no_columns;
    }

pub returns-clause-appended : goal.returns-clause-appended
returns-clause-appended g c =
    let is = c.self.invariant in
    let reported = c.in_ok-entry.ensures in
    let w = c.self.inside in
    added (known_after g.N.Naming-1.fields w.front) w.state c.admit.new.state c.args.batch.now c.args.ready c.worker.inside.number c.args.worker.now c.see.new.self c.raise.new.self
    c.requires (ap (λ (h : Hand). h.number) c.worker.view_is) is.counted.shown.known c.see.ensures.begun c.see.ensures.seen reported.allowed reported.added reported.legal c.raise.ensures.raised

pub returns-clause-receipt : goal.returns-clause-receipt
returns-clause-receipt g c =
    let is = c.self.invariant in
    let reported = c.in_ok-entry.ensures in
    let first = g.N.Naming-1.fields in
    let w = c.self.inside in
    c.new.ensures
    ∙ ap (known_after first) c.again.ensures
    ∙ known_added first w.front c.add.new.front w.state c.admit.new.state c.worker.inside.number c.args.batch.now c.args.ready is.counted.shown.known c.add.ensures.added c.requires reported.added reported.legal
    ∙ seen_added (known_after first w.front) w.state c.admit.new.state c.args.batch.now c.args.ready c.worker.inside.number c.see.new.self
    is.counted.shown.known (ap (λ (h : Hand). h.seen) c.see.ensures.seen) (ap (λ (h : Hand). h.number) c.worker.view_is) c.requires reported.added
    ∙ sym (ap (λ (h : Hand). h.seen) c.raise.ensures.raised)
