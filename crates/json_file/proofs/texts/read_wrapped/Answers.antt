use Rattle.std.proofs.Common.{refl}
use Rattle.json_read.specs.Prelude.{array, no_items}
use Rattle.json_scan.specs.Spelling.{before}
use Rattle.json_file.proofs.TextLemmas.{batch_alone}
use Rattle.json_file.proofs.texts.read_wrapped.Goals as goal

pub returns-clause-ok : goal.returns-clause-ok
returns-clause-ok c =
    let read = c.in_ok-end.ensures.ok in
    (array (before read.0 no_items), read.1, (batch_alone read.0 c.read_array.new.visitor.texts c.in-Some.value c.in-Some.is (read.2 refl)).1)

pub returns-clause-kind : goal.returns-clause-kind
returns-clause-kind c =
    let read = c.in_ok-end.ensures.ok in
    (batch_alone read.0 c.read_array.new.visitor.texts c.in-Some.value c.in-Some.is (read.2 refl)).0
