-- Lists that begin others.
use Rattle.std.proofs.Common.{◌≡◌, ◌∙◌, ◌≤◌, List, length, take, ap, sym, arith, length-append}
use Rattle.std.proofs.Math.Seq.{take-append_seam}
use mathlib.Core.List.{IsPrefix}

pub prefix_length : {A : Type 0} (xs ys : List A) → IsPrefix xs ys → length xs ≤ length ys
prefix_length xs ys begins = omega (arith, sym (ap length begins.1) ∙ length-append xs begins.0)

pub prefix_take : {A : Type 0} (xs ys : List A) → IsPrefix xs ys → take (length xs) ys ≡ xs
prefix_take xs ys begins = ap (take (length xs)) (sym begins.1) ∙ take-append_seam xs begins.0
