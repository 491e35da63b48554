use Rattle.std.proofs.Common.{arith, ◌∙◌, String, List, Global, ap, length, string_bytes, subst, sym}
use Rattle.std.proofs.lemmas.List.{length-map}
use Rattle.job.specs.Jobs.{names_of}
use Rattle.arrowtab.specs.Prelude.{TookFault, front}
use Rattle.ends.specs.Sink.{AppendsFront}
use Rattle.arrowtab.proofs.RunLemmas.{excuse_reported, named}
use Rattle.arrowtab.proofs.invocation.run.Goals as goal

pub returns-in-Ok-clause-quiet : goal.returns-in-Ok-clause-quiet
returns-in-Ok-clause-quiet g c = λ _.
    front (string_bytes c.in-Ok.text) c.in-Ok.ensures.ok
    (subst (AppendsFront (g.O.Sink.taken c.args.out.now) (g.O.Sink.taken c.write_whole.new.sink)) c.as_bytes.ensures.value c.in-Err-write_whole.ensures.err)
    (omega (arith, c.in-Err-write_whole.ensures.count))

pub tell-requires-clause-named : goal.tell-requires-clause-named
tell-requires-clause-named g c =
    named c.args.job.now (length c.deref.result.now) _ _ _ c.in-Err.fault
    (length-map c.args.sources.now g.S.Source.remaining ∙ sym c.requires.named ∙ sym (ap (λ (names : List (String Global)). length names) c.deref.ensures.value))
    (length-map c.args.sources.now g.S.Source.failures ∙ sym c.requires.named ∙ sym (ap (λ (names : List (String Global)). length names) c.deref.ensures.value))
    c.in-Err.ensures.err

pub returns-clause-excused : goal.returns-clause-excused
returns-clause-excused g c = λ _.
    excuse_reported c.args.job.now _ _ _ _ _ _ _ _ _ c.in-Err.fault
    (subst (λ (names : List (String Global)). TookFault (names_of names) c.in-Err.fault (g.E.Sink.failures c.args.err.now) (g.E.Sink.failures c.tell.new.err) (g.E.Sink.taken c.args.err.now) (g.E.Sink.taken c.tell.new.err)) c.deref.ensures.value c.tell.ensures)
    c.in-Err.ensures.err c.in-Err.ensures.first
