use Rattle.std.proofs.Common.{◌≡◌, ◌∙◌, ℕ, ◌<◌, true, ap, sym, arith}
use Rattle.std.specs.Str.{is_utf8}
use Rattle.layout.specs.Prelude.{bytes_at, is_no_text, slot_at}
use Rattle.layout.proofs.RowLemmas.{least_found, least_none, no_text-of_text}
use Rattle.layout.proofs.contents.least_no_text.Goals as goal

pub returns-then-is_no_text : goal.returns-then-is_no_text
returns-then-is_no_text c =
    let here : is_no_text c.args.width c.args.buffers.now c.loop-j.j ≡ true = cc in
    sym (least_found (is_no_text c.args.width c.args.buffers.now) c.args.n c.loop-j.j (omega arith) here c.loop-j.invariant)

pub returns : goal.returns
returns c =
    sym (least_none (is_no_text c.args.width c.args.buffers.now) c.args.n (λ k below. c.loop-j.invariant k (omega arith)))

pub returns-then-are_texts : goal.returns-then-are_texts
returns-then-are_texts c =
    let buffers = c.args.buffers.now in
    let same : (j : ℕ) → j < c.args.n → is_utf8 (slot_at c.args.width (bytes_at buffers 1) (bytes_at buffers 2) j) ≡ true =
    λ j below. ap is_utf8 (λ k. slot_at c.args.width (sym c.bytes_at.ensures k) (sym c.bytes_at-2.ensures k) j) ∙ c.are_texts.ensures c.if-are_texts.true j below in
    sym (least_none (is_no_text c.args.width buffers) c.args.n (λ j below. no_text-of_text c.args.width buffers j (same j below)))
