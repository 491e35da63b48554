use Rattle.arrays.specs.Prelude.{field_of}
use Rattle.shared.proofs.SeenLemmas.{ok_all, widened_same}
use Rattle.table.specs.Stored.{stored_field}
use Rattle.shared.proofs.shared_table.SharedTable.add_column.Goals as goal

pub returns-clause-same : goal.returns-clause-same
returns-clause-same g c = ok_all c.add_column.result (widened_same (stored_field (field_of c.args.field)) c.args.worker.now c.add_column.new.worker) c.add_column.ensures.widened
