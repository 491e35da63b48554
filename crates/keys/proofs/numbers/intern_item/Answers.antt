use Rattle.std.proofs.Common.{◌∙◌, ◌∷◌, [], ap, rules, subst, sym}
use Rattle.std.proofs.lemmas.Int.{to_z-of_z}
use Rattle.std.specs.Int.{w128}
use Rattle.std.specs.Prelude.{FitsSigned, IfOk}
use Rattle.arrays.specs.Prelude.{int, item_of, row_of}
use Rattle.keys.specs.Prelude.{IsInterned, Remembers, key_of}
use Rattle.keys.proofs.MemoLemmas.{step_null, step_other}
use Rattle.keys.proofs.numbers.intern_item.Goals as goal

pub returns-in-None-clause-id : goal.returns-in-None-clause-id
returns-in-None-clause-id c = λ at h.
    let key = key_of c.args.columns.now.by.now (row_of c.args.columns.now.batch.now.columns c.args.row) in
    step_null c.recall_row.result c.args.keys.now c.recall_row.new.keys c.args.memo.now c.recall_row.new.known key
    (at ∙ ap (λ o. item_of o ∷ []) c.in-None.is) h c.recall_row.ensures

pub returns-in-Some-clause-id : goal.returns-in-Some-clause-id
returns-in-Some-clause-id c = λ at h.
    let z = c.in-Some.number in
    let fits : FitsSigned w128 z = search rules in
    let new = c.intern_number.new.self in
    subst (λ k. IfOk c.intern_number.result (λ n. IsInterned c.args.keys.now new k n × Remembers new c.args.memo.now))
    (sym (at ∙ ap (λ o. item_of o ∷ []) c.in-Some.is))
    (step_other c.intern_number.result c.args.keys.now new c.args.memo.now (int z ∷ []) h (rw to_z-of_z at c.intern_number.ensures.keys) (rw to_z-of_z at c.intern_number.ensures.id))
