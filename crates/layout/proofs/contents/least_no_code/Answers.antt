use Rattle.std.proofs.Common.{◌≡◌, true, sym, arith}
use Rattle.layout.specs.Fault.{is_no_code}
use Rattle.layout.proofs.RowLemmas.{least_found, least_none}
use Rattle.layout.proofs.contents.least_no_code.Goals as goal

pub returns-then-is_no_code : goal.returns-then-is_no_code
returns-then-is_no_code c =
    let here : is_no_code c.args.buffers.now c.args.entries c.loop-j.j ≡ true = cc in
    sym (least_found (is_no_code c.args.buffers.now c.args.entries) c.args.n c.loop-j.j (omega arith) here c.loop-j.invariant)

pub returns : goal.returns
returns c =
    sym (least_none (is_no_code c.args.buffers.now c.args.entries) c.args.n (λ k below. c.loop-j.invariant k (omega arith)))
