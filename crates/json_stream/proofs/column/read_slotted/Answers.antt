use Rattle.std.proofs.Common.{refl}
use Rattle.json_read.specs.Prelude.{object}
use Rattle.json_stream.proofs.ColumnLemmas.{column_known}
use Rattle.json_stream.proofs.column.read_slotted.Goals as goal

pub returns-clause-ok : goal.returns-clause-ok
returns-clause-ok c =
    let read = c.in_ok-end.ensures.ok in
    let parts = c.read_object.new.visitor in
    let h = read.2 (refl, record { count = refl; validity = refl; place = refl; values = tt }) in
    (object read.0, read.1, column_known _ _ _ _ c.args.cursor.text.now read.0 parts c.in_ok-value.value h.0 c.saturating_sub.ensures (c.in_ok-value.ensures read.0) h.1)
