use Rattle.std.proofs.Common.{◌∙◌, OnOk, sym, ap, subst}
use Rattle.arrays.specs.Prelude.{Shape, shape_of}
use Rattle.json_print.specs.Prelude.{Adds, type_data}
use Rattle.json_print.proofs.Shapes.{shape_of-LargeUtf8, shape_of-LargeList}
use Rattle.json_print.proofs.schema.write_type.Goals as goal

pub returns-in-LargeUtf8 : goal.returns-in-LargeUtf8
returns-in-LargeUtf8 c =
    let w = c.write_named_type-in-LargeUtf8 in
    subst (λ (s : Shape). OnOk w.result (Adds (type_data s) c.args.out.now w.new.out)) (sym (ap shape_of c.in-LargeUtf8.is ∙ shape_of-LargeUtf8)) w.ensures

pub returns-in-LargeList : goal.returns-in-LargeList
returns-in-LargeList c =
    let w = c.write_named_type-in-LargeList in
    subst (λ (s : Shape). OnOk w.result (Adds (type_data s) c.args.out.now w.new.out)) (sym (ap shape_of c.in-LargeList.is ∙ shape_of-LargeList c.in-LargeList.field-0)) w.ensures
