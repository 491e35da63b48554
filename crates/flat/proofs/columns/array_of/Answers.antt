use Rattle.std.proofs.Common.{inl, inr}
use Rattle.arrays.specs.Prelude.{reading}
use Rattle.flat.proofs.ColumnLemmas.{shown, stopped}
use Rattle.flat.proofs.columns.array_of.Goals as goal

pub returns-in-Ok-clause-ok : goal.returns-in-Ok-clause-ok
returns-in-Ok-clause-ok c =
    shown c.args.field.now c.args.node.now c.args.behind.now (reading c.in_ok-raw.raw) c.in-Ok.array c.in_ok-raw.ensures c.in-Ok.ensures.ok.0 c.in-Ok.ensures.ok.1

pub returns-in-Err-clause-err : goal.returns-in-Err-clause-err
returns-in-Err-clause-err c =
    elim c.layout_fault.ensures [
      | inl none ↦ inr none.1
      | inr other ↦
          elim c.in-Err.ensures.err [
            | inl stands ↦ inl (stopped c.args.column c.args.field.now c.args.node.now c.args.behind.now (reading c.in_ok-raw.raw) c.in-Err.fault _ c.in_ok-raw.ensures stands other.1)
            | inr none ↦ absurd (other.0 none.0)
          ]
    ]
