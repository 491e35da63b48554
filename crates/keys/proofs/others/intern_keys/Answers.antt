use Rattle.std.proofs.Common.{◌<◌, ℕ, List, arith, length, subst, sym}
use Rattle.keys.specs.Keys.{AreIds}
use Rattle.keys.proofs.MemoLemmas.{next_key}
use Rattle.keys.proofs.others.intern_keys.Goals as goal

pub loop-place-preserved : goal.loop-place-preserved
loop-place-preserved c =
    let v = c.loop-place.invariant in
    let new = c.intern_key.new.self in
    let below : c.loop-place.place < length c.args.others.now = omega (arith, c.loop-place-test.true, c.len-place-end.ensures) in
    let step = c.in_ok-intern_key.ensures in
    let next = next_key c.args.others.now c.loop-place.place c.args.keys.now c.loop-place.keys new c.loop-place.ids.items
    c.in_ok-intern_key.field-0 below v.0 v.1 (record { keys_are = step.keys; there = step.id }) in
    (next.0, subst (AreIds new _) (sym {A = List ℕ} c.in_ok-push.ensures.items) next.1)
