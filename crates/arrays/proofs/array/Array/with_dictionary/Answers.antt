use Rattle.std.proofs.Common.{◌≡◌, ◌∙◌, None, map, ap, subst, sym, Some}
use Rattle.std.specs.Arc.{arc_value}
use Rattle.types.specs.Kind.{dict, kind_of}
use Rattle.layout.specs.Reading.{reading}
use Rattle.arrays.specs.Prelude.{kind_with, read_alone, words_with}
use Rattle.arrays.proofs.DictionaryLemmas.{MakesOver-array}
use Rattle.arrays.proofs.array.Array.with_dictionary.Goals as goal

pub invariant_of-result : goal.invariant_of-result
invariant_of-result c =
    let a = c.self.inside in
    let p = arc_value a.parts in
    subst (λ q. (read_alone dict q (Some (arc_value c.of-encoding.result.words))).fault ≡ None) (sym c.in_ok-clone.ensures.cases)
    (subst (λ w. (read_alone dict p (Some w)).fault ≡ None) (sym c.of-encoding.ensures) (MakesOver-array (kind_with (kind_of p.ty) a.encoding) p.length p.buffers.items (map reading p.children.items) (words_with a.encoding) c.args.self.now (arc_value c.args.dictionary) c.self.invariant c.self.view_is c.requires.kind c.requires.begun).lawful)

pub returns : goal.returns
returns c =
    let a = c.self.inside in
    let p = arc_value a.parts in
    ap (λ q. (read_alone dict q (Some (arc_value c.of-encoding.result.words))).seen) c.in_ok-clone.ensures.cases
    ∙ ap (λ w. (read_alone dict p (Some w)).seen) c.of-encoding.ensures ∙ (MakesOver-array (kind_with (kind_of p.ty) a.encoding) p.length p.buffers.items (map reading p.children.items) (words_with a.encoding) c.args.self.now (arc_value c.args.dictionary) c.self.invariant c.self.view_is c.requires.kind c.requires.begun).shows
