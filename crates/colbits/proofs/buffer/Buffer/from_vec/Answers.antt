use Rattle.std.proofs.Common.{◌≡◌, ◌≤◌, ◌-◌, ◌%◌, ◌++◌, ◌∙◌, ℕ, List, length, take, replicate, refl, ap, sym, arith, length-append, vec_len}
use Rattle.std.proofs.Math.Seq.{take-append_seam}
use Rattle.std.proofs.lemmas.List.{take-replicate}
use Rattle.colbits.specs.Padding.{padded, stored_length}
use Rattle.colbits.proofs.buffer.Buffer.from_vec.Goals as goal

-- the content with zeros behind it up to a multiple of 64
padded_by : (content stored : List ℕ) (len size pad : ℕ) → len ≡ length content → size ≡ length stored → stored ≡ content ++ take pad (replicate 64 0)
    → pad ≡ (64 - len % 64) % 64 → (len ≤ size) × (stored ≡ padded (take len stored))
padded_by content stored len size pad len_is size_is is pad_is =
    let zeros : take pad (replicate 64 0) ≡ replicate pad 0 = take-replicate pad 64 0 (omega arith) in
    let whole : stored ≡ content ++ replicate pad 0 = is ∙ ap (λ z. content ++ z) zeros in
    let front : take len stored ≡ content = ap (λ n. take n stored) len_is ∙ ap (take (length content)) whole ∙ take-append_seam content (replicate pad 0) in
    let room : pad ≡ stored_length (length content) - length content = omega arith in (
      omega (arith, ap length whole, length-append content (replicate pad 0)),
      whole ∙ ap (λ n. content ++ replicate n 0) room ∙ sym (ap padded front),
    )

pub invariant_of-result : goal.invariant_of-result
invariant_of-result c =
    let pad = (64 - c.len-len.result % 64) % 64 in
    padded_by c.args.bytes.items c.extend_from_slice.new.self.items c.len-len.result (vec_len c.extend_from_slice.new.self) pad
    (c.len-len.ensures ∙ c.args.bytes.ok.0) c.extend_from_slice.new.self.ok.0 (c.in_ok-extend_from_slice.ensures.items) refl
