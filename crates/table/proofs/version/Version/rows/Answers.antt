use Rattle.std.proofs.Common.{◌∙◌, ap, length}
use Rattle.table.specs.Prelude.{Contents, rows}
use Rattle.table.proofs.StorageLemmas.{count-shown}
use Rattle.table.proofs.version.Version.rows.Goals as goal

pub returns-clause-count : goal.returns-clause-count
returns-clause-count c = count-shown c.storage.result.now c.storage.ensures.lawful ∙ ap (λ (s : Contents). length (rows s.history)) c.storage.ensures.shown
