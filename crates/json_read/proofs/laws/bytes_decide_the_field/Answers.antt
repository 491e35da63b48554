use Rattle.json_read.proofs.FieldTexts.{field_text_same}
use Rattle.json_read.proofs.laws.bytes_decide_the_field.Goals as goal

pub returns : goal.returns
returns c = field_text_same
