use Rattle.std.proofs.Common.{◌≡◌, ◌∙◌, ◌*◌, ◌/◌, ◌+◌, ◌<◌, ℕ, take, ap, arith, sym, subst}
use Rattle.std.proofs.lemmas.List.{length-take-le, take_all}
use Rattle.colbits.specs.Bit.{bit, bit_in}
use Rattle.colbits.specs.declared.bitmap.builder.BitmapBuilder.TheInside.{Inside}
use Rattle.colbits.proofs.BuildingLemmas.{Keeps, Keeps-packed, Keeps-words, Packs, Packs-take, Packs-words, first_bits-packed, shown_length}
use Rattle.colbits.proofs.bitmap.builder.BitmapBuilder.truncate.Goals as goal
use Rattle.colbits.proofs.bitmap.builder.BitmapBuilder.truncate.Goals.{then-words-self, else-words-self}

pub returns-then-len-self : goal.returns-then-len-self
returns-then-len-self c =
    let s = c.self.inside in
    let size = shown_length s.bytes.items s.last s.len c.args.self.now c.self.view_is in
    sym (take_all c.args.len c.args.self.now (omega arith))

pub returns : goal.returns
returns c =
    let s = c.self.inside in
    let xs = c.args.self.now in
    let n = c.args.len in
    let size = shown_length s.bytes.items s.last s.len xs c.self.view_is in
    let before = Packs-words s.bytes.items s.last s.len xs c.self.invariant c.self.view_is in
    let kept : Keeps c.if-words-self.self-inside.bytes.items c.if-words-self.self-inside.last (n / 64) n xs =
    elim c.if-words-self.branch [
      | then-words-self w ↦ (
          let reported : (j : ℕ) → j < 64 → bit_in w.word_from-self-inside.result j ≡ bit s.bytes.items (8 * (8 * (n / 64)) + 0 + j) =
          λ j small. w.word_from-self-inside.ensures j small ∙ ap (λ bytes. bit bytes (8 * (8 * (n / 64)) + 0 + j)) w.deref.ensures.value in
          subst (λ (i : Inside). Keeps i.bytes.items i.last (n / 64) n xs) (sym w.self-inside-is)
          (Keeps-words s.bytes.items w.truncate.new.self.items s.last w.word_from-self-inside.result (s.len / 64) (n / 64) n xs before w.if-words-self.true w.truncate.ensures.items reported))
      | else-words-self w ↦ (
          let same : s.len / 64 ≡ n / 64 = omega arith in
          subst (λ (i : Inside). Keeps i.bytes.items i.last (n / 64) n xs) (sym w.self-inside-is)
          (Keeps-packed s.bytes.items s.last (n / 64) n xs (subst (λ k. Packs s.bytes.items s.last k xs) same before)))
    ] in
    first_bits-packed c.if-words-self.self-inside.bytes.items c.first_of-self-inside.result (n / 64) n (take n xs)
    (Packs-take c.if-words-self.self-inside.bytes.items c.if-words-self.self-inside.last c.first_of-self-inside.result n xs kept (omega arith) c.first_of-self-inside.ensures)
    (sym (length-take-le n xs (omega arith)))
