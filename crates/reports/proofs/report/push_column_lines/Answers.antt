use Rattle.std.proofs.Common.{◌≡◌, ◌∙◌, ◌∷◌, ◌+◌, append_assoc, ap, drop}
use Rattle.std.proofs.lemmas.List.{drop_more}
use Rattle.std.proofs.lemmas.Option.{get_or_from_slice_get, slice_get_within}
use Rattle.arrays.specs.Prelude.{column, field_of}
use Rattle.table.specs.History.{rows}
use Rattle.reports.proofs.report.push_column_lines.Goals as goal

pub loop-k-preserved : goal.loop-k-preserved
loop-k-preserved c =
    let fields = c.args.version.now.fields in
    let k = c.loop-k.k in
    let f = field_of c.field_at.result.now in
    let there = c.field_at.ensures in
    let rest = drop (k + 1) fields in
    let next : drop k fields ≡ f ∷ rest = drop_more fields k f (slice_get_within fields k f there) ∙ ap (λ x. x ∷ rest) (get_or_from_slice_get fields k f f there) in
    rw (c.in_ok-push_field_line.ensures (column (rows c.args.version.now.history) k) (c.stats.ensures f there), append_assoc) (rw next at c.loop-k.invariant)
