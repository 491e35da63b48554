use Rattle.std.proofs.Common.{◌≡◌, ◌∙◌, ℕ, ◌+◌, ◌<◌, Bool, [], ◌∷◌, ◌++◌, length, false, take, option_map, ap, sym, refl, arith, slice_index_or}
use Rattle.arrays.specs.Prelude.{boolean, valid_at, valid_in}
use Rattle.std.proofs.lemmas.Option.{get_or_from_slice_get}
use Rattle.arrays.specs.Kind as kind
use Rattle.group.specs.declared.tally.Tally.{Tally}
use Rattle.group.proofs.TallyLemmas.{walk-value, walk-null, take-value, take-null}
use Rattle.group.proofs.slots.truth_stats.Goals as goal
use Rattle.group.proofs.slots.truth_stats.Goals.{then-is_valid, else-is_valid}

pub loop-i-preserved : goal.loop-i-preserved
loop-i-preserved c =
    let s = c.args.view.now in
    let bits = c.bools-column.result.values in
    let i = c.loop-i.i in
    let t = c.loop-i.tally in
    let u = c.if-is_valid.tally in
    let items = take i s.items in
    let value = λ (j : ℕ). boolean (slice_index_or bits j false) in
    let within : i < length s.items = omega (arith, c.bools-column.ensures.slots, c.loop-i-test.true) in
    let valid_is : valid_at s i ≡ c.is_valid.result = ap (λ v. valid_in v i) (sym c.bools-column.ensures.validity) ∙ sym c.is_valid.ensures in
    elim c.if-is_valid.branch [
      | then-is_valid w ↦ (
          let e = w.with_value-tally.ensures in
          let grown = take-value value s i c.bools-column.ensures.values.values within (valid_is ∙ w.if-is_valid.true) ∙ ap (λ y. items ++ boolean y ∷ []) (get_or_from_slice_get bits i w.get.result false w.get.ensures) in
          walk-value kind.boolean t.nulls u.nulls (option_map boolean t.least) (option_map boolean t.greatest) (option_map boolean u.least) (option_map boolean u.greatest) items (take (i + 1) s.items) (boolean w.get.result)
          c.loop-i.invariant refl grown
          (ap (λ (q : Tally Bool). q.nulls) w.tally-is ∙ e.nulls)
          (ap (λ (q : Tally Bool). option_map boolean q.least) w.tally-is ∙ e.least)
          (ap (λ (q : Tally Bool). option_map boolean q.greatest) w.tally-is ∙ e.greatest))
      | else-is_valid w ↦ (
          let e = w.with_null-tally.ensures in
          let grown = take-null value s i c.bools-column.ensures.values.values within (valid_is ∙ w.if-is_valid.false) in
          walk-null kind.boolean t.nulls u.nulls (option_map boolean t.least) (option_map boolean t.greatest) (option_map boolean u.least) (option_map boolean u.greatest) items (take (i + 1) s.items)
          c.loop-i.invariant grown
          (ap (λ (q : Tally Bool). q.nulls) w.tally-is ∙ e.nulls)
          (ap (λ (q : Tally Bool). option_map boolean q.least) w.tally-is ∙ ap (option_map boolean) e.least)
          (ap (λ (q : Tally Bool). option_map boolean q.greatest) w.tally-is ∙ ap (option_map boolean) e.greatest))
    ]
