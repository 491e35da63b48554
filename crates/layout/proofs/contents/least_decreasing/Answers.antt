use Rattle.std.proofs.Common.{◌≡◌, ℕ, ◌+◌, Bool, true, sym, arith}
use Rattle.std.specs.Prelude.{int_lt}
use Rattle.types.specs.Prelude.{number_at, offset_type}
use Rattle.layout.proofs.RowLemmas.{least_found, least_none}
use Rattle.layout.proofs.contents.least_decreasing.Goals as goal

pub returns-then-is_decreasing : goal.returns-then-is_decreasing
returns-then-is_decreasing c =
    let test : ℕ → Bool = λ j. int_lt (number_at (offset_type c.args.width) c.args.offsets.now (j + 1)) (number_at (offset_type c.args.width) c.args.offsets.now j) in
    let here : test c.loop-j.j ≡ true = cc in
    sym (least_found test c.args.n c.loop-j.j (omega arith) here c.loop-j.invariant)

pub returns : goal.returns
returns c =
    let test : ℕ → Bool = λ j. int_lt (number_at (offset_type c.args.width) c.args.offsets.now (j + 1)) (number_at (offset_type c.args.width) c.args.offsets.now j) in
    sym (least_none test c.args.n (λ k below. c.loop-j.invariant k (omega arith)))
