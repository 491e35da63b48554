use Rattle.std.proofs.Common.{◌≡◌, ◌∙◌, ℕ, ◌+◌, ◌<◌, ◌+ℤ◌, [], ◌∷◌, ◌++◌, length, Some, rules, take, option_map, FitsSigned, to_z, of_z, ap, sym, refl, subst, arith}
use Rattle.std.specs.Int.{w128}
use Rattle.std.proofs.lemmas.Int.{ints, to_z-of_z}
use Rattle.arrays.specs.Prelude.{int, null, number_at, valid_at, valid_in}
use Rattle.arrays.specs.Kind as kind
use Rattle.group.specs.Prelude.{chosen, greater, lesser}
use Rattle.group.specs.declared.number.Number.{Number}
use Rattle.group.specs.declared.tally.Tally.{Tally}
use Rattle.group.proofs.SumLemmas.{IsSum, IsSum-null, IsSum-number}
use Rattle.group.proofs.TallyLemmas.{few_nulls, walk-value, walk-null, take-value, take-null}
use Rattle.group.proofs.slots.number_stats.Goals as goal
use Rattle.group.proofs.slots.number_stats.Goals.{then-is_valid, else-is_valid}

pub with_null-tally-requires : goal.with_null-tally-requires
with_null-tally-requires g c =
    let s = c.args.view.now in
    let t = c.loop-i.tally in
    let item = λ (n : Number g.row.T.Denot). int (g.T.Integer.value n.number) in
    let within : c.loop-i.i < length s.items = omega (arith, c.ints-column.ensures.slots, c.loop-i-test.true) in
    let few = few_nulls (kind.int g.T.Integer.ty) t.nulls (option_map item t.least) (option_map item t.greatest) c.loop-i.i s.items within c.loop-i.invariant.tally in
    omega (arith, few, c.ints-column.result.short, c.loop-i-test.true)

pub loop-i-preserved : goal.loop-i-preserved
loop-i-preserved g c =
    let ty = g.T.Integer.ty in
    let k = kind.int ty in
    let s = c.args.view.now in
    let item = λ (n : Number g.row.T.Denot). int (g.T.Integer.value n.number) in
    let numbers = c.ints-column.result.values.now in
    let i = c.loop-i.i in
    let t = c.loop-i.tally in
    let u = c.if-is_valid.tally in
    let items = take i s.items in
    let value = λ (j : ℕ). int (number_at ty numbers j) in
    let has = c.ints-column.ensures.values in
    let within : i < length s.items = omega (arith, c.ints-column.ensures.slots, c.loop-i-test.true) in
    let valid_is : valid_at s i ≡ c.is_valid.result = ap (λ v. valid_in v i) (sym c.ints-column.ensures.validity) ∙ sym c.is_valid.ensures in
    elim c.if-is_valid.branch [
      | then-is_valid w ↦ (
          let z = w.wide-sum.result in
          let e = w.with_value-tally.ensures in
          let fits : FitsSigned w128 z = search rules in
          let same : to_z w128 (of_z w128 z) ≡ z = to_z-of_z w128 z fits in
          let grown = take-value value s i has.numbers within (valid_is ∙ w.if-is_valid.true) ∙ ap (λ y. items ++ int y ∷ []) (sym (w.wide-sum.ensures.value ∙ w.read-number.ensures)) in
          let next = IsSum-number i (to_z w128 c.loop-i.sum-bits) items z w.wide-sum.ensures.low w.wide-sum.ensures.high c.loop-i.invariant.sum in
          let sum_fits : FitsSigned w128 (to_z w128 c.loop-i.sum-bits +ℤ z) = omega (arith, ints, next.low, next.high, c.ints-column.result.short, c.loop-i-test.true) in
          let sum_is : to_z w128 c.if-is_valid.sum-bits ≡ to_z w128 c.loop-i.sum-bits +ℤ z =
          w.sum-is ∙ ap (λ y. to_z w128 (of_z w128 (to_z w128 c.loop-i.sum-bits +ℤ y))) same ∙ to_z-of_z w128 (to_z w128 c.loop-i.sum-bits +ℤ z) sum_fits in record {
            tally = walk-value k t.nulls u.nulls (option_map item t.least) (option_map item t.greatest) (option_map item u.least) (option_map item u.greatest) items (take (i + 1) s.items) (int z)
                c.loop-i.invariant.tally refl grown
                (ap (λ (q : Tally (Number g.row.T.Denot)). q.nulls) w.tally-is ∙ e.nulls)
                (ap (λ (q : Tally (Number g.row.T.Denot)). option_map item q.least) w.tally-is ∙ e.least ∙ ap (λ y. Some (chosen lesser (option_map item t.least) y)) (ap int (sym w.wide-sum.ensures.value)))
                (ap (λ (q : Tally (Number g.row.T.Denot)). option_map item q.greatest) w.tally-is ∙ e.greatest ∙ ap (λ y. Some (chosen greater (option_map item t.greatest) y)) (ap int (sym w.wide-sum.ensures.value)));
            sum = subst (λ l. IsSum (i + 1) (to_z w128 c.if-is_valid.sum-bits) l) (sym grown) (subst (λ y. IsSum (i + 1) y (items ++ int z ∷ [])) (sym sum_is) next);
          })
      | else-is_valid w ↦ (
          let e = w.with_null-tally.ensures in
          let grown = take-null value s i has.numbers within (valid_is ∙ w.if-is_valid.false) in
          let next = IsSum-null i (to_z w128 c.loop-i.sum-bits) items c.loop-i.invariant.sum in record {
            tally = walk-null k t.nulls u.nulls (option_map item t.least) (option_map item t.greatest) (option_map item u.least) (option_map item u.greatest) items (take (i + 1) s.items)
                c.loop-i.invariant.tally grown
                (ap (λ (q : Tally (Number g.row.T.Denot)). q.nulls) w.tally-is ∙ e.nulls)
                (ap (λ (q : Tally (Number g.row.T.Denot)). option_map item q.least) w.tally-is ∙ ap (option_map item) e.least)
                (ap (λ (q : Tally (Number g.row.T.Denot)). option_map item q.greatest) w.tally-is ∙ ap (option_map item) e.greatest);
            sum = subst (λ l. IsSum (i + 1) (to_z w128 c.if-is_valid.sum-bits) l) (sym grown) (subst (λ y. IsSum (i + 1) y (items ++ null ∷ [])) (sym w.sum-is) next);
          })
    ]
