use Rattle.std.proofs.Common.{◌≡◌, ◌∙◌, ◌+◌, ◌*◌, ◌≤◌, ap, length, subst, sym, rules}
use Rattle.types.specs.OffsetSize.{most_of}
use Rattle.colbits.specs.Slice.{slice}
use Rattle.layout.specs.Offsets.{offsets_in, start_of}
use Rattle.layout.proofs.OffsetParts.{ArePart, absent-part, slice-part, start_of-short}
use Rattle.layout.proofs.offsets.Offsets.new.Goals as goal

pub invariant_of-result : goal.invariant_of-result
invariant_of-result c =
    let none : length c.args.bytes.now ≡ 0 = search rules in
    let there = absent-part c.args.width c.args.bytes.now c.args.start c.args.slots c.requires.enough none in
    (there.size, there.counted)

pub returns-then-is_empty-clause-offsets : goal.returns-then-is_empty-clause-offsets
returns-then-is_empty-clause-offsets c =
    let none : length c.args.bytes.now ≡ 0 = search rules in
    (absent-part c.args.width c.args.bytes.now c.args.start c.args.slots c.requires.enough none).same

pub returns-then-is_empty-clause-short : goal.returns-then-is_empty-clause-short
returns-then-is_empty-clause-short c = λ j below.
    let none : length c.args.bytes.now ≡ 0 = search rules in
    subst (λ l. start_of l j ≤ most_of c.args.width) (sym (absent-part c.args.width c.args.bytes.now c.args.start c.args.slots c.requires.enough none).same)
    (start_of-short c.args.width c.args.bytes.now c.args.start c.args.slots j (λ i. (c.type_inv.bytes i).fits) below)

pub invariant_of-result-2 : goal.invariant_of-result-2
invariant_of-result-2 c =
    let some : length c.args.bytes.now ≡ 0 → ⊥ = search rules in
    let is = c.part.ensures ∙ ap (λ size. slice c.args.bytes.now (c.args.start * size) ((c.args.slots + 1) * size)) c.bytes-size.ensures in
    let there = subst (λ b. ArePart c.args.width b c.args.bytes.now c.args.start c.args.slots) (sym is) (slice-part c.args.width c.args.bytes.now c.args.start c.args.slots c.requires.enough some c.requires.counted) in
    (there.size, there.counted)

pub returns-clause-offsets : goal.returns-clause-offsets
returns-clause-offsets c =
    let some : length c.args.bytes.now ≡ 0 → ⊥ = search rules in
    let is = c.part.ensures ∙ ap (λ size. slice c.args.bytes.now (c.args.start * size) ((c.args.slots + 1) * size)) c.bytes-size.ensures in
    ap (λ b. offsets_in c.args.width b 0 c.args.slots) is ∙ (slice-part c.args.width c.args.bytes.now c.args.start c.args.slots c.requires.enough some c.requires.counted).same

pub returns-clause-short : goal.returns-clause-short
returns-clause-short c = λ j below.
    let some : length c.args.bytes.now ≡ 0 → ⊥ = search rules in
    let is = c.part.ensures ∙ ap (λ size. slice c.args.bytes.now (c.args.start * size) ((c.args.slots + 1) * size)) c.bytes-size.ensures in
    subst (λ l. start_of l j ≤ most_of c.args.width)
    (sym (ap (λ b. offsets_in c.args.width b 0 c.args.slots) is ∙ (slice-part c.args.width c.args.bytes.now c.args.start c.args.slots c.requires.enough some c.requires.counted).same))
    (start_of-short c.args.width c.args.bytes.now c.args.start c.args.slots j (λ i. (c.type_inv.bytes i).fits) below)
