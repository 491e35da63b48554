use Rattle.std.proofs.Common.{◌≡◌, [], refl, rules}
use Rattle.json_read.specs.Prelude.{no_items}
use Rattle.json_scan.specs.Spelling.{before}
use Rattle.json_stream.proofs.ListLemmas.{no_offsets}
use Rattle.json_stream.proofs.offsets.read_offsets.Goals as goal

pub returns-clause-ok : goal.returns-clause-ok
returns-clause-ok c =
    let read = c.in_ok-end.ensures.ok in
    let none : c.new.result.items ≡ [] = search rules in
    let h = read.2 (refl, no_offsets c.args.width record { width = c.args.width; bytes = c.new.result; len = 0 } none refl) in
    (before read.0 no_items, read.1, h.1)
