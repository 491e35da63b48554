use Rattle.json_read.proofs.JsonFiles.{encodings_listed}
use Rattle.json_read.proofs.file.file_schema.Goals as goal

pub returns-in-Ok-clause-encodings : goal.returns-in-Ok-clause-encodings
returns-in-Ok-clause-encodings c = encodings_listed _ _ _ c.in_ok-schema.ensures.ok c.in-Ok.ensures.encodings
