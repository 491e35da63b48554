use Rattle.std.proofs.Common.{◌≡◌, None, List, subst, sym}
use Rattle.std.specs.List.{AllByRecursion}
use Rattle.arrays.specs.Prelude.{FieldShape, schema_fault}
use Rattle.json_laws.specs.IsFile.{IsField}
use Rattle.json_laws.proofs.WholeFields.{fields_lawful}
use Rattle.json_laws.proofs.whole.tell_fields.Goals as goal

pub returns-clause-lawful : goal.returns-clause-lawful
returns-clause-lawful c =
    let same = c.fields.ensures.value in
    subst (λ (fs : List FieldShape). AllByRecursion IsField fs) same
    (fields_lawful c.fields.result.now (subst (λ (fs : List FieldShape). schema_fault fs ≡ None) (sym same) c.fields.ensures.lawful))
