use Rattle.std.proofs.Common.{◌∙◌, List, ap, length, subst, sym}
use Rattle.std.specs.Arc.{arc_value}
use Rattle.arrays.specs.Prelude.{FieldShape}
use Rattle.shared.proofs.BalanceLemmas.{shows_same}
use Rattle.shared.proofs.SeenLemmas.{copy_kept, known_joined, shows_joined, some_each}
use Rattle.shared.specs.Prelude.{IsBalanced, IsLegalKnown, known_after}
use Rattle.table.specs.Contents.{Contents}
use Rattle.shared.proofs.locked.Locked.compact.Goals as goal

pub show_version-requires : goal.show_version-requires
show_version-requires g c =
    let reported = c.in_ok-version.ensures in
    let shown = shows_joined g.N.Naming-1.workers c.args.max_rows (known_after g.N.Naming-1.fields c.self.inside.front) c.self.inside.state c.compact_shown.new.self reported.compacted c.self.invariant.counted.shown in
    shows_same g.N.Naming-1.workers (known_after g.N.Naming-1.fields c.self.inside.front) c.compact_shown.new.self (arc_value c.in_ok-version.second) shown reported.shown.1

pub invariant_of-self-2 : goal.invariant_of-self-2
invariant_of-self-2 g c =
    let is = c.self.invariant in
    let inside = c.self.inside in
    let next = c.compact_shown.new.self in
    let joined = c.in_ok-version.ensures.compacted in
    let shown = c.in_ok-version.ensures.shown in
    let same = known_joined c.args.max_rows c.self.inside.state next joined in record {
      counted = record {
        balanced = subst (IsBalanced inside.books.calls.total inside.books.rows.total) (sym joined.history) is.counted.balanced;
        shown = shows_joined g.N.Naming-1.workers c.args.max_rows (known_after g.N.Naming-1.fields inside.front) inside.state next joined is.counted.shown;
        legal = subst IsLegalKnown (sym same) is.counted.legal;
        widened_by = ap (λ (fs : List FieldShape). length fs) joined.fields ∙ is.counted.widened_by;
      };
      newest = copy_kept arc_value _ c.clone.result c.ok.result c.in_ok-version.version next c.clone.ensures.cases c.ok.ensures.value shown.0;
      shown = some_each c.show_version.new.publisher
          (λ p is_shown. subst (λ (t : Contents). g.P.Publish.shows p (record { contents = t; number = c.show_version.new.number })) shown.1 is_shown) c.show_version.ensures.shown;
      no_call_part = is.no_call_part;
      no_calls = is.no_calls;
      no_row_part = is.no_row_part;
      no_rows = is.no_rows;
      no_column_part = is.no_column_part;
      no_columns = is.no_columns;
    }
