use Rattle.std.proofs.Common.{◌∙◌, ◌∷◌, [], ap, rules, subst, sym}
use Rattle.std.proofs.lemmas.Int.{to_z-of_z}
use Rattle.std.specs.Int.{w128}
use Rattle.std.specs.Prelude.{FitsSigned, IfOk}
use Rattle.arrays.specs.Prelude.{item_of, looked_up, row_of}
use Rattle.keys.specs.Prelude.{IsInterned, Knows, Remembers, key_of}
use Rattle.keys.proofs.MemoLemmas.{step_no_entry}
use Rattle.keys.proofs.codes.intern_slot.Goals as goal

pub returns-in-None : goal.returns-in-None
returns-in-None c = λ at h knows.
    let key = key_of c.args.columns.now.by.now (row_of c.args.columns.now.batch.now.columns c.args.row) in
    let items = c.args.entries.now.items in
    step_no_entry c.recall_row.result c.args.keys.now c.recall_row.new.keys c.args.memo.now c.recall_row.new.known key items
    (at ∙ ap (λ o. looked_up items (item_of o) ∷ []) c.in-None.is) h knows c.recall_row.ensures

pub returns-in-Some : goal.returns-in-Some
returns-in-Some c = λ at h knows.
    let z = c.in-Some.code in
    let fits : FitsSigned w128 z = search rules in
    let items = c.args.entries.now.items in
    let new = c.intern_code.new.keys in
    let memo = c.intern_code.new.memo in
    subst (λ k. IfOk c.intern_code.result (λ n. IsInterned c.args.keys.now new k n × Remembers new memo × Knows new items memo))
    (sym (at ∙ ap (λ o. looked_up items (item_of o) ∷ []) c.in-Some.is)) ((rw to_z-of_z at c.intern_code.ensures) h knows)
