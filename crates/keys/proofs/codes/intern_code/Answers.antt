use Rattle.std.proofs.Common.{◌≡◌, ◌∙◌, ◌∷◌, ◌<◌, [], None, ap, arith, length, refl, subst, sym}
use Rattle.std.proofs.lemmas.List.{get_or_default}
use Rattle.std.proofs.lemmas.Int.{to_z-of_z}
use Rattle.std.specs.Int.{w128}
use Rattle.std.specs.Prelude.{IfOk, slice_index_or}
use Rattle.arrays.specs.Prelude.{int, looked_up, natural, null}
use Rattle.keys.specs.Memo.{IsInterned, IsRemembered}
use Rattle.keys.proofs.MemoLemmas.{code_below, step_entry}
use Rattle.keys.proofs.codes.intern_code.Goals as goal

pub recall_entry-requires-clause-within : goal.recall_entry-requires-clause-within
recall_entry-requires-clause-within c =
    omega (
      arith,
      c.place_of-place.ensures ∙ ap natural (to_z-of_z w128 c.args.code c.ranges.code),
      code_below (length c.args.entries.now.items) c.args.code c.requires.code,
    )

pub returns : goal.returns
returns c = λ h knows.
    let m = c.args.memo.now in
    let items = c.args.entries.now.items in
    let place = c.place_of-place.result in
    let place_is : place ≡ natural c.args.code = c.place_of-place.ensures ∙ ap natural (to_z-of_z w128 c.args.code c.ranges.code) in
    let below : place < length m.entries.items = omega (arith, place_is, c.requires.room, code_below (length items) c.args.code c.requires.code) in
    let key = looked_up items (int c.args.code) ∷ [] in
    let is : key ≡ slice_index_or items place null ∷ [] = ap (λ n. slice_index_or items n null ∷ []) (sym place_is) in
    let old = c.index_mut.result.now in
    let now = c.recall_entry.new.known in
    let new = c.recall_entry.new.keys in
    step_entry c.recall_entry.result c.args.keys.now new m _ key items place old now is h knows
    below (c.index_mut.ensures.value ∙ get_or_default m.entries.items place old None below) (record { null = refl; entries = refl })
    (subst (λ k. IsRemembered c.args.keys.now k old → IfOk c.recall_entry.result (λ x. IsInterned c.args.keys.now new k x × IsRemembered new k now)) (sym is) c.recall_entry.ensures)
