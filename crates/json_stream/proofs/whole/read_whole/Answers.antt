use Rattle.std.proofs.Common.{rules}
use Rattle.std.specs.Int.{w128}
use Rattle.std.proofs.lemmas.Int.{to_z-of_z}
use Rattle.json_read.specs.Prelude.{number, string}
use Rattle.json_stream.proofs.Numerals.{text_spelled}
use Rattle.json_stream.proofs.whole.read_whole.Goals as goal

pub returns-in-Some-clause-reads : goal.returns-in-Some-clause-reads
returns-in-Some-clause-reads c =
    let read = rw c.as_bytes.ensures.value at c.in-Some.ensures.reads in
    (number read.0, read.1, read.2)

pub returns-clause-reads : goal.returns-clause-reads
returns-clause-reads c =
    let z = c.in_ok-text_integer.field-0 in
    let is = text_spelled c.in_ok-digits.digits.value.now _ c.in_ok-text_integer.ensures in
    (string c.in_ok-digits.digits.value.now, rw (to_z-of_z w128 z (search rules)) is, c.in_ok-digits.ensures.reads)
