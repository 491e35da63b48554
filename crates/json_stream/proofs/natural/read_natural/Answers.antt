use Rattle.std.proofs.Common.{◌∙◌, drop, pos, ◌≤ℤ◌, nat_abs, Some, ap, rules}
use Rattle.std.specs.Int.{w128}
use Rattle.std.proofs.lemmas.Int.{to_z-of_z}
use Rattle.json_stream.proofs.Naturals.{natural_spelled, natural_is}
use Rattle.json_stream.proofs.natural.read_natural.Goals as goal

pub returns-then-integer-lt2147483648-clause-reads : goal.returns-then-integer-lt2147483648-clause-reads
returns-then-integer-lt2147483648-clause-reads c =
    let d = c.args.text.now in
    let z = c.in_ok-integer.integer.value in
    let low : pos 0 ≤ℤ z = search rules in
    let read = c.in_ok-integer.ensures.reads in
    let e = natural_spelled (drop c.args.at d) (drop c.in_ok-integer.integer.end d) read.0 (nat_abs z) (read.1 ∙ ap Some (natural_is z low)) read.2 in
    rw (to_z-of_z w128 z (search rules)) e
