use Rattle.std.proofs.Common.{◌∙◌, ◌++◌, ◌/◌, map, take, ap}
use Rattle.std.specs.List.{range_with_len}
use Rattle.colbits.specs.Bitmap.{bit_of}
use Rattle.colbits.proofs.BitLemmas.{bits-filled, listed, past-filled}
use Rattle.colbits.proofs.BuildingLemmas.{ArePlaces-packed, Packs-words, shown_length}
use Rattle.colbits.proofs.WordLemmas.{ArePlaces}
use Rattle.colbits.proofs.bitmap.builder.BitmapBuilder.finish.Goals as goal

-- what the buffer holds in the end
present : (c : goal.In_ok-buffer) → ArePlaces (bit_of c.args.self) c.self.inside.len c.in_ok-buffer.buffer
present c =
    let s = c.self.inside in
    let size = shown_length s.bytes.items s.last s.len c.args.self c.self.view_is in
    let all =
    c.in_ok-buffer.ensures ∙ c.in_ok-extend_from_slice.ensures.items ∙ ap (λ more. s.bytes.items ++ take c.bytes_for.result more) c.to_le_bytes.ensures in
    ArePlaces-packed s.bytes.items c.in_ok-buffer.buffer s.last (s.len / 64) s.len c.bytes_for.result c.args.self (Packs-words s.bytes.items s.last s.len c.args.self c.self.invariant c.self.view_is)
    size c.bytes_for.ensures all

pub invariant_of-result : goal.invariant_of-result
invariant_of-result c =
    let all = present c in
    record { length_is = all.long; past = past-filled (bit_of c.args.self) c.in_ok-buffer.buffer c.self.inside.len all.bits_are }

pub returns : goal.returns
returns c =
    let s = c.self.inside in
    let size = shown_length s.bytes.items s.last s.len c.args.self c.self.view_is in
    bits-filled (bit_of c.args.self) c.in_ok-buffer.buffer s.len (present c).bits_are
    ∙ ap (λ n. map (bit_of c.args.self) (range_with_len 0 n)) size
    ∙ listed c.args.self
