use Rattle.std.proofs.Common.{◌∙◌, ◌+◌, ap, arith, length, length-append, subst, sym, ◌∷◌, []}
use Rattle.std.specs.Arc.{arc_value}
use Rattle.arrays.specs.Prelude.{field_of}
use Rattle.shared.proofs.BalanceLemmas.{balanced_wider, shows_same, shows_widened}
use Rattle.shared.proofs.KnownLemmas.{few_added, known_widened}
use Rattle.shared.proofs.SeenLemmas.{some_each, widened_by}
use Rattle.shared.specs.Prelude.{IsLegalKnown, known_after}
use Rattle.table.specs.Prelude.{Contents, stored_field}
use Rattle.shared.proofs.locked.Locked.add_column.Goals as goal

pub see-requires : goal.see-requires
see-requires g c = subst IsLegalKnown (sym c.self.invariant.counted.shown.known) c.self.invariant.counted.legal

pub see-requires-2 : goal.see-requires-2
see-requires-2 g c =
    let reported = c.in_ok-version.ensures in
    let w = c.self.inside in
    let f = stored_field (field_of c.args.field.now) in
    subst IsLegalKnown (sym (known_widened g.N.Naming-1.fields w.front c.add.new.front w.state c.add_column_shown.new.self f c.self.invariant.counted.shown.known c.add.ensures.added reported.added)) reported.legal

pub count_column-requires : goal.count_column-requires
count_column-requires g c =
    let w = c.self.inside in
    few_added g.N.Naming-1.fields w.front w.state w.books.columns.total c.self.invariant.counted.shown.known c.self.invariant.counted.widened_by c.add.ensures.few

pub show_version-requires : goal.show_version-requires
show_version-requires g c =
    let reported = c.in_ok-version.ensures in
    let w = c.self.inside in
    let first = g.N.Naming-1.fields in
    let count = g.N.Naming-1.workers in
    let f = stored_field (field_of c.args.field.now) in
    let shown = shows_widened count first w.front c.add.new.front w.state c.add_column_shown.new.self f c.self.invariant.counted.shown c.add.ensures.added reported.added in
    shows_same count (known_after first c.add.new.front) c.add_column_shown.new.self (arc_value c.in_ok-version.second) shown reported.shown.1

pub invariant_of-self-2 : goal.invariant_of-self-2
invariant_of-self-2 g c =
    let is = c.self.invariant in
    let reported = c.in_ok-version.ensures in
    let w = c.self.inside in
    let s = w.state in
    let next = c.add_column_shown.new.self in
    let f = stored_field (field_of c.args.field.now) in
    let n = length s.fields + 1 in record {
      counted = record {
        balanced = balanced_wider n w.books.calls.total w.books.rows.total s.history next.history is.counted.balanced (ap (λ (t : Contents). t.history) reported.added);
        shown = shows_widened g.N.Naming-1.workers g.N.Naming-1.fields w.front c.add.new.front s next f is.counted.shown c.add.ensures.added reported.added;
        legal = reported.legal;
        widened_by = omega (arith, ap (λ (t : Contents). length t.fields) reported.added, length-append s.fields (f ∷ []), is.counted.widened_by, c.count_column.ensures.total);
      };
      newest = reported.shown.0;
      shown = some_each c.show_version.new.publisher
          (λ p is_shown. subst (λ (t : Contents). g.P.Publish.shows p (record { contents = t; number = c.show_version.new.number })) reported.shown.1 is_shown) c.show_version.ensures.shown;
      no_call_part = is.no_call_part;
      no_calls = is.no_calls;
      no_row_part = is.no_row_part;
      no_rows = is.no_rows;
      no_column_part = is.no_column_part;
      no_columns = is.no_columns;
    }

pub returns-clause-widened : goal.returns-clause-widened
returns-clause-widened g c =
    let reported = c.in_ok-version.ensures in
    let w = c.self.inside in
    let first = g.N.Naming-1.fields in
    let s = w.state in
    let next = c.add_column_shown.new.self in
    let f = stored_field (field_of c.args.field.now) in
    let known = known_widened first w.front c.add.new.front s next f c.self.invariant.counted.shown.known c.add.ensures.added reported.added in
    widened_by (known_after first w.front) (known_after first c.add.new.front) s next f c.args.worker.now c.see.new.self c.see-2.new.self c.count_column.new.self
    c.self.invariant.counted.shown.known known reported.added c.self.invariant.counted.legal reported.legal c.see.ensures.begun c.see.ensures.seen c.see-2.ensures.seen c.count_column.ensures.counted
