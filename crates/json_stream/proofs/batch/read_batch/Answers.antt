use Rattle.std.proofs.Common.{◌∙◌}
use Rattle.std.specs.Arc.{arc_value}
use Rattle.json_read.specs.Prelude.{object}
use Rattle.json_stream.proofs.ReadBatches.{batch_read}
use Rattle.json_stream.proofs.batch.read_batch.Goals as goal

pub returns-clause-ok : goal.returns-clause-ok
returns-clause-ok c =
    let read = c.in_ok-read.ensures.ok in
    let made = c.in_ok-value.ensures in
    (object read.0, read.1, batch_read (arc_value c.args.schema.now) _ _ read.0 c.in_ok-read.read.value c.in_ok-value.value (c.fields.ensures.value ∙ c.deref.ensures) read.2 made.rows made.columns made.whole made.even)
