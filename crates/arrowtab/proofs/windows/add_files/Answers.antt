use Rattle.std.proofs.Common.{◌∙◌, ◌∷◌, ap, arith, length, map, subst, sym}
use Rattle.std.specs.List.{AllZip}
use Rattle.std.specs.Vec.Iter.{into_iter_items}
use Rattle.reports.specs.Parsed.{IsParsed}
use Rattle.reports.proofs.ParseLemmas.{AddsSoFar-more, AddsSoFar-none, AddsSoFar-whole, reported_stops}
use Rattle.arrowtab.proofs.windows.add_files.Goals as goal

pub loop-parsed-init : goal.loop-parsed-init
loop-parsed-init g c =
    let texts = map (λ t. t.items) c.args.texts.items in
    let all = c.into_iter-parsed-iterator.ensures.into_iter_gives in record {
      added = AddsSoFar-none texts c.args.files.now.items _ (subst (AllZip IsParsed texts) (sym all.0) c.in_ok-parsed-items.ensures);
      left = omega (arith, all.1, ap (λ l. length l) all.0, c.in_ok-parsed-items.parsed-items.ok.0);
    }

pub loop-parsed-preserved : goal.loop-parsed-preserved
loop-parsed-preserved g c =
    let texts = map (λ t. t.items) c.args.texts.items in
    let at = c.loop-parsed in
    let steps = c.in-Some.ensures.steps in record {
      added = AddsSoFar-more texts c.args.files.now.items at.files.items _ _ _ c.in-Ok.file at.invariant.added (steps.0 ∙ ap (λ p. p ∷ into_iter_items c.next.new.self) c.in-Ok.is) c.in_ok-push-in-Ok.ensures.items;
      left = omega (arith, at.invariant.left, steps.1, ap (λ l. length l) steps.0);
    }

pub returns-in-Err-clause-err : goal.returns-in-Err-clause-err
returns-in-Err-clause-err g c =
    let texts = map (λ t. t.items) c.args.texts.items in
    let at = c.loop-parsed in
    reported_stops texts c.args.files.now.items at.files.items _ _ c.in-Err.fault c.len.result c.text_fault.result at.invariant.added (c.in-Some.ensures.steps.0 ∙ ap (λ p. p ∷ into_iter_items c.next.new.self) c.in-Err.is) (omega (arith, c.len.ensures, at.files.ok.0)) c.text_fault.ensures

pub returns-clause-ok : goal.returns-clause-ok
returns-clause-ok g c =
    let texts = map (λ t. t.items) c.args.texts.items in
    let at = c.loop-parsed in
    AddsSoFar-whole texts c.args.files.now.items at.files.items _ at.invariant.added (sym at.invariant.left ∙ c.in-None.ensures.steps.0)
