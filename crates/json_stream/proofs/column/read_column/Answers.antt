use Rattle.std.proofs.Common.{◌≡◌, None, option_map, rules}
use Rattle.json_read.specs.CatalogParts.{coding_of}
use Rattle.json_scan.proofs.Values.{if_ok_then}
use Rattle.json_stream.proofs.ColumnLemmas.{plain_top}
use Rattle.json_stream.proofs.column.read_column.Goals as goal

pub returns-clause-ok : goal.returns-clause-ok
returns-clause-ok c =
    let none : option_map coding_of c.args.coding.now ≡ None = search rules in
    if_ok_then c.read_uncoded.result c.read_uncoded.ensures.ok (λ r read. (read.0, read.1, plain_top _ _ _ _ _ none read.2))
