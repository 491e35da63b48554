use Rattle.std.proofs.Common.{◌^◌, ◌<◌, List, length, subst, sym}
use Rattle.std.specs.Arc.{arc_value}
use Rattle.std.specs.List.{AllByRecursion}
use Rattle.arrays.specs.Prelude.{AreBatchesOf, Batch, FieldShape}
use Rattle.json_base.specs.JsonTable.{tables_of}
use Rattle.json_laws.specs.IsFile.{IsField, IsTable}
use Rattle.json_laws.proofs.WholeTables.{tables_present}
use Rattle.json_laws.proofs.whole.tell_file.Goals as goal

pub returns : goal.returns
returns c =
    let fields = c.args.file.now.fields in
    let same = c.batches.ensures.value in
    record {
      few = subst (λ (fs : List FieldShape). length fs < 2 ^ 63) c.schema.ensures c.tell_fields.ensures.few;
      lawful = subst (λ (fs : List FieldShape). AllByRecursion IsField fs) c.schema.ensures c.tell_fields.ensures.lawful;
      present = subst (λ (bs : List Batch). AllByRecursion (IsTable fields) (tables_of bs)) same
          (tables_present arc_value fields c.batches.result.now (subst (AreBatchesOf fields) (sym same) c.batches.ensures.types) c.tell_batches.ensures);
    }
