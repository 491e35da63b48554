use Rattle.std.proofs.Common.{◌%◌, ◌∙◌, ap, get_or, inr, refl, subst}
use Rattle.std.proofs.lemmas.Result.{IfOk-weaker}
use Rattle.std.specs.Arc.{arc_value}
use Rattle.loads.specs.Loaded.{batches_of_files}
use Rattle.shared.specs.Missing.{AllThere}
use Rattle.arrowtab.proofs.TogetherLemmas.{holds, loaded_there, stopped, stopped_there}
use Rattle.arrowtab.proofs.together.load_by.Goals as goal

pub gather_all-requires : goal.gather_all-requires
gather_all-requires g c =
    let new = c.load_into.new.hands.items in
    subst (λ n. AllThere n new) c.requires.count (loaded_there (batches_of_files c.args.files.now) g.N.Naming-1.fields c.args.hands.items new c.requires.new c.in-Ok.ensures.ok)

pub gather_all-requires-in-Err-Refused : goal.gather_all-requires-in-Err-Refused
gather_all-requires-in-Err-Refused g c =
    let new = c.load_into.new.hands.items in
    let at = c.in-Err-Refused in
    subst (λ n. AllThere n new) c.requires.count
    (stopped_there c.args.files.now g.N.Naming-1.fields c.args.hands.items new at.file at.batch at.refusal c.requires.new (rw at.field-0-is at at.ensures.err))

pub returns-in-Ok-clause-ok : goal.returns-in-Ok-clause-ok
returns-in-Ok-clause-ok g c =
    let new = c.load_into.new.hands.items in
    IfOk-weaker c.gather_all.result _ _
    (λ v. holds c.args.table c.args.files.now g.N.Naming-1.fields c.args.hands.items new (arc_value v) c.requires.count c.requires.worker c.requires.fields c.requires.new c.in-Ok.ensures.ok)
    c.gather_all.ensures.ok

pub returns-in_ok-gather_all-in-Err-Refused-clause-err : goal.returns-in_ok-gather_all-in-Err-Refused-clause-err
returns-in_ok-gather_all-in-Err-Refused-clause-err g c =
    let hands = c.load_into.new.hands in
    let at = c.in-Err-Refused in
    let own = c.index.result.now in
    let gathered = c.in_ok-gather_all-in-Err-Refused in
    inr (
      at.file,
      at.batch,
      at.refusal,
      refl,
      stopped c.args.files.now g.N.Naming-1.fields c.args.hands.items hands.items at.file at.batch at.refusal c.requires.new c.args.table (arc_value gathered.field-0) g.N.Naming-1.workers own
          c.requires.count c.requires.worker c.requires.fields (rw at.field-0-is at at.ensures.err)
          (c.index.ensures ∙ ap (λ n. get_or hands.items (at.file % n) own) (c.len.ensures ∙ hands.ok.0)) c.tell.ensures.part c.tell.ensures.legal gathered.ensures.ok,
    )
