use Rattle.std.proofs.Common.{map, option_map}
use Rattle.std.specs.Arc.{arc_value}
use Rattle.types.specs.Kind.{kind_of}
use Rattle.layout.specs.Prelude.{checked_texts, reading}
use Rattle.arrays.specs.Array.{kind_with, words_with}
use Rattle.arrays.proofs.DictionaryLemmas.{IsTexts-array}
use Rattle.arrays.proofs.array.Array.into_texts.Goals as goal

pub returns-clause-lawful : goal.returns-clause-lawful
returns-clause-lawful c =
    let a = c.self.inside in
    let p = arc_value a.parts in
    (IsTexts-array (kind_with (kind_of p.ty) a.encoding) p.length p.buffers.items (map reading p.children.items) (option_map checked_texts (words_with a.encoding)) c.args.self c.self.invariant c.self.view_is c.requires).lawful

pub returns-clause-shows : goal.returns-clause-shows
returns-clause-shows c =
    let a = c.self.inside in
    let p = arc_value a.parts in
    (IsTexts-array (kind_with (kind_of p.ty) a.encoding) p.length p.buffers.items (map reading p.children.items) (option_map checked_texts (words_with a.encoding)) c.args.self c.self.invariant c.self.view_is c.requires).shows
