use Rattle.std.proofs.Common.{◌∙◌, ◌<◌, Option, Some, ap, arith, length, option_map, sym}
use Rattle.std.specs.Arc.{arc_value}
use Rattle.std.specs.Prelude.{slice_get}
use Rattle.std.specs.declared.alloc.Global.{Global}
use Rattle.std.specs.declared.sync.Arc.{Arc}
use Rattle.std.proofs.lemmas.Option.{slice_get_read}
use Rattle.arrays.specs.Prelude.{Seen}
use Rattle.table.specs.Prelude.{Contents, dictionaries_of, rows}
use Rattle.table.proofs.StorageLemmas.{dictionary-at, length-dictionaries}
use Rattle.table.proofs.version.Version.dictionary.Goals as goal

pub index-requires : goal.index-requires
index-requires c =
    let storage = c.storage.result.now in
    omega (arith, c.requires, length-dictionaries storage c.storage.ensures.lawful, ap (λ (s : Contents). length s.fields) c.storage.ensures.shown, storage.dictionaries.ok.0)

pub returns-in-Some : goal.returns-in-Some
returns-in-Some c =
    let storage = c.storage.result.now in
    let below : c.args.k < storage.dictionaries.len =
    omega (arith, c.requires, length-dictionaries storage c.storage.ensures.lawful, ap (λ (s : Contents). length s.fields) c.storage.ensures.shown, storage.dictionaries.ok.0) in
    let there = slice_get_read storage.dictionaries.items storage.dictionaries.len c.args.k c.index.result.now storage.dictionaries.ok.0 below c.index.ensures in
    ap (λ (s : Contents). slice_get (dictionaries_of s.fields (rows s.history)) c.args.k) (sym c.storage.ensures.shown)
    ∙ dictionary-at storage c.storage.ensures.lawful c.args.k c.index.result.now there
    ∙ ap (λ (o : Option (Arc Seen Global)). Some (option_map arc_value o)) c.in-Some.is
    ∙ ap (λ (s : Seen). Some (Some s)) (sym c.deref.ensures)

pub returns-in-None : goal.returns-in-None
returns-in-None c =
    let storage = c.storage.result.now in
    let below : c.args.k < storage.dictionaries.len =
    omega (arith, c.requires, length-dictionaries storage c.storage.ensures.lawful, ap (λ (s : Contents). length s.fields) c.storage.ensures.shown, storage.dictionaries.ok.0) in
    let there = slice_get_read storage.dictionaries.items storage.dictionaries.len c.args.k c.index.result.now storage.dictionaries.ok.0 below c.index.ensures in
    ap (λ (s : Contents). slice_get (dictionaries_of s.fields (rows s.history)) c.args.k) (sym c.storage.ensures.shown)
    ∙ dictionary-at storage c.storage.ensures.lawful c.args.k c.index.result.now there
    ∙ ap (λ (o : Option (Arc Seen Global)). Some (option_map arc_value o)) c.in-None.is
