use Rattle.std.proofs.Common.{◌≡◌, ◌∙◌, ◌<◌, ◌≤◌, ◌^◌, ◌||◌, ◌==◌, true, drop, rules, sym, ap, arith}
use Rattle.std.specs.Int.{w128}
use Rattle.std.proofs.lemmas.Int.{to_z-of_z}
use Rattle.json.specs.Word.{is_operator, is_space, ends_word}
use Rattle.json_scan.proofs.Numbers.{integer_spells}
use Rattle.json_scan.proofs.number.read_integer.Goals as goal
use Rattle.json_scan.proofs.number.read_integer.Goals.{else-minus-via-then-minus+else-digits, else-minus-via-else-minus}

pub returns-clause-reads : goal.returns-clause-reads
returns-clause-reads c =
    let d = c.args.text.now in
    let start = c.after_space-start.result in
    let first = c.minus_end.result in
    let read = c.in_ok-digits in
    let end = read.digits.end in
    let n = read.digits.value in
    let byte = c.byte_at-minus.result in
    let ends : ends_word (drop end d) ≡ true = ap (λ x. is_operator x || is_space x) (sym c.byte_at.ensures.head) ∙ sym c.if-not-ends_word.ensures in
    let range : (byte == 45) ≡ true → (0 < n) × (n ≤ 2 ^ 63) =
    λ e.
    elim c.else-minus.branch [
      | else-minus-via-then-minus+else-digits w ↦ grind arith
      | else-minus-via-else-minus w ↦ grind arith
    ] in
    let r =
    integer_spells d c.args.at start first end n c.after_space-start.ensures.same c.minus_end.ensures.part c.minus_end.ensures.word read.ensures.digits read.ensures.value (omega arith) read.ensures.part read.ensures.word
    read.ensures.within.0 read.ensures.within.1 ends (byte == 45) (ap (λ x. x == 45) (sym c.byte_at-minus.ensures.value)) c.minus_end.ensures.sign range in
    rw (to_z-of_z w128 c.signed.result (search rules), c.signed.ensures) r
