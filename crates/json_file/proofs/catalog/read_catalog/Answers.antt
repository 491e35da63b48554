use Rattle.json_scan.proofs.Values.{if_ok_then}
use Rattle.json_file.proofs.CatalogLemmas.{coded_by}
use Rattle.json_file.proofs.catalog.read_catalog.Goals as goal

pub returns : goal.returns
returns c =
    let at = c.in_ok-dictionaries.ensures.ok in
    let entries = at.3 in
    if_ok_then c.codings_by.result c.codings_by.ensures (λ codings coded. (at.0, at.1, coded_by at.2 _ at.0 _ _ entries at.4 (coded at.2 entries)))
