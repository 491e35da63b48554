use Rattle.std.proofs.Common.{◌∙◌, option_and_then, ap, sym}
use Rattle.json_read.specs.Prelude.{flag_number, number}
use Rattle.json_stream.proofs.natural.read_number_flag.Goals as goal

pub returns-clause-reads : goal.returns-clause-reads
returns-clause-reads c =
    let read = c.in_ok-number.ensures.reads in
    (number read.0, ap (option_and_then flag_number) read.1 ∙ sym c.in_ok-number_flag.ensures, read.2)
