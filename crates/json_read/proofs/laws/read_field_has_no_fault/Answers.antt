use Rattle.json_read.proofs.FieldTexts.{field_text_law}
use Rattle.json_read.proofs.laws.read_field_has_no_fault.Goals as goal

pub returns : goal.returns
returns c = field_text_law
