use Rattle.std.proofs.Common.{◌≡◌, ◌∙◌, ◌==◌, ◌/◌, ◌%◌, ◌^◌, eqb, Bool, true, false, cond, not, length, map, get_or, ap, refl, arith, rules, lit≤}
use Rattle.std.specs.Int.{w8}
use Rattle.std.proofs.lemmas.List.{get_or-map}
use Rattle.std.proofs.lemmas.Simd.{bitmask_splat, bit_mask_l}
use Rattle.kernels.proofs.comparison.packed.word_of.Goals as goal

reported : (b : Bool) → (cond b 1 0 == 1) ≡ b
reported true = refl
reported false = refl

pub returns : goal.returns
returns c j below =
    let flags = c.args.flags in
    let size : length flags ≡ 64 = search rules in
    ap (λ word. (word / 2 ^ j % 2) == 1) (bitmask_splat w8 (λ x y. not (eqb x y)) flags 64 0 size (lit≤ tt))
    ∙ ap (λ bit. bit == 1) (bit_mask_l (map (λ x. not (eqb x 0)) flags) j)
    ∙ reported (get_or (map (λ x. not (eqb x 0)) flags) j false)
    ∙ get_or-map (λ x. not (eqb x 0)) flags j 0 false (omega arith)
