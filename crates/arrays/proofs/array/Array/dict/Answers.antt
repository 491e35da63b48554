use Rattle.std.proofs.Common.{◌≡◌, ◌∙◌, map, option_map, ap, subst, sym, Some}
use Rattle.std.specs.Arc.{arc_value}
use Rattle.std.specs.Prelude.{None}
use Rattle.types.specs.Kind.{dict, kind_of}
use Rattle.layout.specs.Prelude.{checked_texts, reading}
use Rattle.arrays.specs.Prelude.{kind_with, read_alone, words_with}
use Rattle.arrays.proofs.DictionaryLemmas.{MakesDict-array}
use Rattle.arrays.proofs.array.Array.dict.Goals as goal

pub invariant_of-result : goal.invariant_of-result
invariant_of-result c =
    let a = c.codes.inside in
    let p = arc_value a.parts in
    subst (λ w. (read_alone dict p (Some w)).fault ≡ None) (sym c.of.ensures) (MakesDict-array (kind_with (kind_of p.ty) a.encoding) p.length p.buffers.items (map reading p.children.items) (option_map checked_texts (words_with a.encoding)) c.args.codes (arc_value c.args.dictionary) c.codes.invariant c.codes.view_is c.requires.numbers c.requires.codes).lawful

pub returns : goal.returns
returns c =
    let a = c.codes.inside in
    let p = arc_value a.parts in
    ap (λ w. (read_alone dict p (Some w)).seen) c.of.ensures ∙ (MakesDict-array (kind_with (kind_of p.ty) a.encoding) p.length p.buffers.items (map reading p.children.items) (option_map checked_texts (words_with a.encoding)) c.args.codes (arc_value c.args.dictionary) c.codes.invariant c.codes.view_is c.requires.numbers c.requires.codes).shows
