use Rattle.std.proofs.Common.{rules, inl, inr, ◌≡◌, ◌∙◌, ◌+◌, ◌++◌, ◌∷◌, [], length, take, drop, Some, refl, sym, ap, subst, arith, slice_get, slice_index_or}
use Rattle.std.proofs.lemmas.Option.{slice_get-get_or}
use Rattle.std.proofs.lemmas.Grind.{common_steps}
use Rattle.arrays.specs.Prelude.{item_of, null}
use Rattle.pool.specs.Prelude.{AreKnown, firsts, texts_of, with_item}
use Rattle.pool.proofs.PrefixLemmas.{prefix_take}
use Rattle.pool.proofs.RecodeLemmas.{Recoded-none, Recoded-item, pool-item, full_in_all, reported_of_all, begins_as_before}
use Rattle.pool.proofs.recoding.add_all.Goals as goal

pub loop-i-init : goal.loop-i-init
loop-i-init c = record {
  recoded = Recoded-none c.args.pool.now c.args.view.now.items c.in_ok-codes.codes 0 refl c.requires.once c.requires.fits c.in_ok-codes.ensures.0 c.in_ok-codes.ensures.1;
  known = c.in_ok-known.ensures c.args.pool.now;
}

pub returns-in_err-place-clause-err : goal.returns-in_err-place-clause-err
returns-in_err-place-clause-err c =
    let old = c.args.pool.now in
    let items = c.args.view.now.items in
    let i = c.loop-i.i in
    let x = slice_index_or items i null in
    let at : slice_get items i ≡ Some x = slice_get-get_or items i null (omega (arith, c.loop-i-test.true, c.slots-slots.ensures.count)) in
    reported_of_all c.from_residual-in_err-place.result c.in_err-place.field-0.0 (with_item c.loop-i.pool x) (firsts (old ++ texts_of items))
    c.from_residual-in_err-place.ensures.1 (elim c.in_err-place.ensures.fault [ inl h ↦ inl h | inr h ↦ inr h.0 ])
    (full_in_all old items i x c.loop-i.pool at c.loop-i.invariant.recoded.pool_is)

pub returns-in_err-place-clause-begins : goal.returns-in_err-place-clause-begins
returns-in_err-place-clause-begins c =
    begins_as_before c.args.pool.now (texts_of (take c.loop-i.i c.args.view.now.items)) c.add_row.new.pool c.requires.once (c.in_err-place.ensures.err ∙ c.loop-i.invariant.recoded.pool_is)

pub returns-in_err-push_as-clause-begins : goal.returns-in_err-push_as-clause-begins
returns-in_err-push_as-clause-begins c =
    let old = c.args.pool.now in
    let items = c.args.view.now.items in
    let i = c.loop-i.i in
    let x = slice_index_or items i null in
    let at : slice_get items i ≡ Some x = slice_get-get_or items i null (omega (arith, c.loop-i-test.true, c.slots-slots.ensures.count)) in
    begins_as_before old (texts_of (take (i + 1) items)) c.add_row.new.pool c.requires.once
    (c.in_ok-place.ensures.place.texts ∙ pool-item old items i x c.loop-i.pool at c.loop-i.invariant.recoded.pool_is)

pub loop-i-preserved : goal.loop-i-preserved
loop-i-preserved c =
    let old = c.args.pool.now in
    let items = c.args.view.now.items in
    let i = c.loop-i.i in
    let x = slice_index_or items i null in
    let place = c.in_ok-place.place in
    let at : slice_get items i ≡ Some x = slice_get-get_or items i null (omega (arith, c.loop-i-test.true, c.slots-slots.ensures.count)) in
    let new = c.add_row.new.known in
    let len : c.loop-i.known.len ≡ length new = omega (arith, c.add_row.auto.known, c.deref_mut.ensures.len) in
    record {
      recoded = Recoded-item old items i x place c.loop-i.pool c.add_row.new.pool c.loop-i.codes c.push_as.new.self c.loop-i.invariant.recoded
          at c.in_ok-place.ensures.place c.add_row.ensures.fits c.in_ok-push_as.ensures.kept (c.in_ok-push_as.ensures.ok ∙ ap (λ o. c.loop-i.codes.items ++ item_of o ∷ []) (search rules));
      known = subst (AreKnown c.add_row.new.pool c.args.view.now.entries.items) (sym (ap (λ n. take n (new ++ drop (length new) c.loop-i.known.items)) len ∙ prefix_take new (new ++ drop (length new) c.loop-i.known.items) (drop (length new) c.loop-i.known.items, refl))) c.in_ok-place.ensures.known;
    }

pub returns-in_err-finish-clause-begins : goal.returns-in_err-finish-clause-begins
returns-in_err-finish-clause-begins c =
    begins_as_before c.args.pool.now (texts_of (take c.loop-i.i c.args.view.now.items)) c.loop-i.pool c.requires.once c.loop-i.invariant.recoded.pool_is

pub returns-clause-codes : goal.returns-clause-codes
returns-clause-codes c = let r = c.loop-i.invariant.recoded in grind (arith, common_steps)

pub returns-clause-whole : goal.returns-clause-whole
returns-clause-whole c = let r = c.loop-i.invariant.recoded in grind (arith, common_steps)

pub returns-clause-begins : goal.returns-clause-begins
returns-clause-begins c =
    begins_as_before c.args.pool.now (texts_of (take c.loop-i.i c.args.view.now.items)) c.loop-i.pool c.requires.once c.loop-i.invariant.recoded.pool_is
