use Rattle.std.proofs.Common.{◌≡◌, ◌-ℤ◌, None, IfErr, IfOk, subst}
use Rattle.std.specs.Int.{w128}
use Rattle.std.proofs.lemmas.Int.{to_z-of_z}
use Rattle.arrays.specs.Shown.{shown}
use Rattle.kernels.specs.Prelude.{IsKernelFault, fault_from, fault_with, number_beside, number_fault, results}
use Rattle.kernels.proofs.BesideLemmas.{fault_flipped, flipped, results_flipped}
use Rattle.kernels.proofs.arithmetic.sub_from_number.Goals as goal

pub returns : goal.returns
returns c =
    let a = c.args.a.now in
    let z = c.args.number in
    let r = c.compute_with.result in
    let f = flipped ◌-ℤ◌ in
    let same = to_z-of_z w128 z c.ranges.number in
    let passed = subst (λ w. IfOk r (λ x. (fault_with f a w ≡ None) × (x ≡ shown a.kind (results f a.items (number_beside a w).items)))) same c.compute_with.ensures.ok in
    let reported = subst (λ fault. IfOk r (λ x. (fault ≡ None) × (x ≡ shown a.kind (results f a.items (number_beside a z).items)))) (fault_flipped ◌-ℤ◌ a z) passed in
    let refused = subst (λ w. IfErr r (λ e. IsKernelFault (number_fault a w) (fault_with f a w) e)) same c.compute_with.ensures.err in
    record {
      ok = subst (λ items. IfOk r (λ x. (fault_from ◌-ℤ◌ z a ≡ None) × (x ≡ shown a.kind items))) (results_flipped ◌-ℤ◌ a z) reported;
      err = subst (λ fault. IfErr r (λ e. IsKernelFault (number_fault a z) fault e)) (fault_flipped ◌-ℤ◌ a z) refused;
    }
