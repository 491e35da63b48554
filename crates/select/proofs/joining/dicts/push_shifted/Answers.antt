use Rattle.std.proofs.Common.{◌≡◌, ◌∙◌, ◌<◌, arith, length, subst, sym, true}
use Rattle.arrays.specs.Prelude.{IsOfType, int32, is_code, item_of}
use Rattle.select.specs.Joined.{shifted}
use Rattle.select.proofs.JoinLemmas.{added-more}
use Rattle.select.proofs.JoinedCodes.{code-at, encoded-is, shifted-fits}
use Rattle.select.proofs.PickLemmas.{all-at, number-row}
use Rattle.select.proofs.joining.dicts.push_shifted.Goals as goal

pub returns-in_err-push_as-clause-encoded : goal.returns-in_err-push_as-clause-encoded
returns-in_err-push_as-clause-encoded c = encoded-is c.args.view.now c.codes-codes.ensures.items c.codes-codes.ensures.within

pub push_as-requires-clause-of_type : goal.push_as-requires-clause-of_type
push_as-requires-clause-of_type c =
    let s = c.args.view.now in
    let i = c.loop-i.i in
    let entries = length s.entries.items in
    let codes = c.codes-codes.result in
    let numbers = c.ints-numbers.result in
    let below : i < length codes.items = omega (arith, c.loop-i-test.true, c.len-i-end.ensures) in
    let stored = number-row int32 numbers.values.now numbers.validity codes i c.get.result c.ints-numbers.ensures.values c.ints-numbers.ensures.validity below c.get.ensures.value in
    let at = code-at s codes i (item_of c.get.result) c.codes-codes.ensures.value stored in
    let names = all-at (λ x. is_code entries x ≡ true) s.codes i (item_of c.get.result) c.codes-codes.ensures.within at in
    λ x is.
    subst (λ t. IsOfType t x) (sym c.loop-i.invariant.ty) (shifted-fits entries c.args.before c.get.result c.shift.result names c.requires.few c.shift.ensures x is)

pub loop-i-preserved : goal.loop-i-preserved
loop-i-preserved c =
    let s = c.args.view.now in
    let i = c.loop-i.i in
    let codes = c.codes-codes.result in
    let numbers = c.ints-numbers.result in
    let below : i < length codes.items = omega (arith, c.loop-i-test.true, c.len-i-end.ensures) in
    let stored = number-row int32 numbers.values.now numbers.validity codes i c.get.result c.ints-numbers.ensures.values c.ints-numbers.ensures.validity below c.get.ensures.value in
    let at = code-at s codes i (item_of c.get.result) c.codes-codes.ensures.value stored in record {
      ty = c.in_ok-push_as.ensures.kept ∙ c.loop-i.invariant.ty;
      items = added-more (shifted c.args.before) s.codes i (item_of c.get.result) c.args.builder.now.items c.loop-i.builder.items c.push_as.new.self.items (item_of c.shift.result) at c.loop-i.invariant.items c.shift.ensures c.in_ok-push_as.ensures.ok;
    }

pub returns-clause-encoded : goal.returns-clause-encoded
returns-clause-encoded c = encoded-is c.args.view.now c.codes-codes.ensures.items c.codes-codes.ensures.within
