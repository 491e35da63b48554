use Rattle.std.proofs.Common.{sym, map, option_map}
use Rattle.std.proofs.lemmas.List.{length-map}
use Rattle.std.proofs.lemmas.Result.{IfErr-weaker, IfOk-weaker}
use Rattle.json_base.specs.Prelude.{items_view, view}
use Rattle.json_read.specs.Prelude.{coding_of, ids_of, parts_of}
use Rattle.json_read.proofs.JsonCatalogs.{catalog_codings, catalog_read}
use Rattle.json_read.proofs.catalog.read_catalog.Goals as goal

pub returns-clause-ok : goal.returns-clause-ok
returns-clause-ok c =
    let entries = items_view c.in_ok-entries.entries.values.now in
    let encodings = map (option_map parts_of) c.args.encodings.now in
    IfOk-weaker c.read_codings.result _ _
    (λ cs are. catalog_read (view c.args.document.now) encodings entries (ids_of entries) _ (map (option_map coding_of) cs.items) c.requires.encodings c.in_ok-entries.ensures.ok
    (sym (length-map c.args.encodings.now (option_map parts_of))) are)
    c.read_codings.ensures.ok

pub returns-clause-err : goal.returns-clause-err
returns-clause-err c =
    let entries = items_view c.in_ok-entries.entries.values.now in
    let encodings = map (option_map parts_of) c.args.encodings.now in
    IfErr-weaker c.read_codings.result _ _
    (λ f t. catalog_codings (view c.args.document.now) encodings entries (ids_of entries) f t c.in_ok-entries.ensures.ok c.requires.encodings)
    c.read_codings.ensures.err
