use Rattle.std.proofs.Common.{◌≡◌, ◌∙◌, ◌+◌, Some, ap, arith, subst, sym}
use Rattle.std.specs.Prelude.{slice_get, unwrap_or}
use Rattle.keys.specs.CodeSets.{place_end}
use Rattle.keys.proofs.code_set.CodeSet.place_of.Goals as goal

pub returns-in_default-clause-there : goal.returns-in_default-clause-there
returns-in_default-clause-there c n is =
    let x = c.args.code in
    let reported = c.place_end.ensures ∙ ap (λ l. place_end l c.as_slice-2.result.now x) c.as_slice.ensures.value
    ∙ ap (λ l. place_end c.self.inside.numbers.items l x) c.as_slice-2.ensures.value in
    let some : n + 1 ≡ c.place_end.result = omega (arith, ap (λ o. unwrap_or o 0) is, c.in_default) in
    subst (λ l. slice_get l n ≡ Some x) c.self.view_is (c.self.invariant.there x n (sym reported ∙ sym some))
