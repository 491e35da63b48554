use Rattle.std.proofs.Common.{◌∷◌, ◌+◌, ◌∙◌, [], ℕ, add-zero, ap, get_or, sym, w64}
use Rattle.std.specs.Int.{from_le_bytes}
use Rattle.colbits.specs.Bit.{bit_in}
use Rattle.colbits.proofs.WordLemmas.{eight-bytes}
use Rattle.colbits.proofs.word.eight_bytes.Goals as goal

pub returns : goal.returns
returns c = λ j h.
    let bytes = c.args.bytes.now in
    let at = c.args.at in
    let from = λ (first : ℕ). from_le_bytes w64 (get_or bytes first 0 ∷ get_or bytes (at + 1) 0 ∷ get_or bytes (at + 2) 0 ∷ get_or bytes (at + 3) 0
    ∷ get_or bytes (at + 4) 0 ∷ get_or bytes (at + 5) 0 ∷ get_or bytes (at + 6) 0 ∷ get_or bytes (at + 7) 0 ∷ []) in
    ap (λ n. bit_in n j) (c.from_le_bytes.ensures ∙ ap from (sym (add-zero at))) ∙ eight-bytes bytes at (λ k. (c.type_inv.bytes k).fits) j h
