use Rattle.std.proofs.Common.{rules, arith}
use Rattle.json_base.specs.Prelude.{view}
use Rattle.json_read.specs.JsonSchema.{NamesLists}
use Rattle.json_read.proofs.JsonFaults.{field_child, names_lists}
use Rattle.json_read.proofs.schema.+read_within.Goals as goal

pub returns-in-Err-clause-err : goal.returns-in-Err-clause-err
returns-in-Err-clause-err t c =
    let lists : NamesLists (view c.args.field.now) = search (rules, names_lists) in
    field_child c.args.within _ _ _ _ _ _ c.in-Err.ensures.err (omega arith) lists c.in_ok-child.ensures.child c.under-item.ensures c.under.ensures
