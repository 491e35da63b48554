use Rattle.std.proofs.Common.{◌≡◌, ℕ, ◌+◌, Bool, true, sym, arith}
use Rattle.types.specs.Prelude.{is_negative, number_at, offset_type}
use Rattle.layout.proofs.RowLemmas.{any_found, any_none}
use Rattle.layout.proofs.contents.is_some_negative.Goals as goal

pub returns-then-is_negative : goal.returns-then-is_negative
returns-then-is_negative c =
    let test : ℕ → Bool = λ j. is_negative (number_at (offset_type c.args.width) c.args.offsets.now j) in
    let here : test c.loop-j.j ≡ true = cc in
    sym (any_found test (c.args.n + 1) c.loop-j.j (omega arith) here)

pub returns : goal.returns
returns c =
    let test : ℕ → Bool = λ j. is_negative (number_at (offset_type c.args.width) c.args.offsets.now j) in
    sym (any_none test (c.args.n + 1) (λ k below. c.loop-j.invariant k (omega arith)))
