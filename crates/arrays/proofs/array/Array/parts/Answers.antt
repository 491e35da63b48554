use Rattle.std.proofs.Common.{◌∙◌, None, Option, Some, ap, sym}
use Rattle.std.specs.Arc.{arc_value}
use Rattle.types.specs.Kind.{kind_of}
use Rattle.layout.specs.Reading.{Reading}
use Rattle.arrays.specs.Prelude.{kind_with, read_alone, words_with}
use Rattle.arrays.specs.declared.array.encoding.Encoding.{Encoding}
use Rattle.arrays.specs.declared.array.parts.Parts.{Parts}
use Rattle.arrays.proofs.LentLemmas.{lent-array}
use Rattle.arrays.proofs.array.Array.parts.Goals as goal

pub returns-in-Some-clause-lawful : goal.returns-in-Some-clause-lawful
returns-in-Some-clause-lawful c =
    let a = c.self.inside in
    let k = kind_with (kind_of (arc_value a.parts).ty) a.encoding in
    let same = c.of.ensures k
    ∙ ap (λ (p : Parts). read_alone k p (Some (arc_value c.in-Some.encoding.words))) c.deref.ensures
    ∙ ap (λ (e : Option Encoding). read_alone k (arc_value a.parts) (words_with e)) (sym c.in-Some.is) in
    ap (λ (r : Reading). r.fault) (lent-array a c.args.self.now c.of.result c.self.view_is same) ∙ c.self.invariant

pub returns-in-Some-clause-shows : goal.returns-in-Some-clause-shows
returns-in-Some-clause-shows c =
    let a = c.self.inside in
    let k = kind_with (kind_of (arc_value a.parts).ty) a.encoding in
    let same = c.of.ensures k
    ∙ ap (λ (p : Parts). read_alone k p (Some (arc_value c.in-Some.encoding.words))) c.deref.ensures
    ∙ ap (λ (e : Option Encoding). read_alone k (arc_value a.parts) (words_with e)) (sym c.in-Some.is) in
    ap (λ (r : Reading). r.seen) (lent-array a c.args.self.now c.of.result c.self.view_is same) ∙ c.self.view_is

pub returns-in-None-clause-lawful : goal.returns-in-None-clause-lawful
returns-in-None-clause-lawful c =
    let a = c.self.inside in
    let k = kind_with (kind_of (arc_value a.parts).ty) a.encoding in
    let same = c.of-in-None.ensures k
    ∙ ap (λ (p : Parts). read_alone k p None) c.deref-in-None.ensures
    ∙ ap (λ (e : Option Encoding). read_alone k (arc_value a.parts) (words_with e)) (sym c.in-None.is) in
    ap (λ (r : Reading). r.fault) (lent-array a c.args.self.now c.of-in-None.result c.self.view_is same) ∙ c.self.invariant

pub returns-in-None-clause-shows : goal.returns-in-None-clause-shows
returns-in-None-clause-shows c =
    let a = c.self.inside in
    let k = kind_with (kind_of (arc_value a.parts).ty) a.encoding in
    let same = c.of-in-None.ensures k
    ∙ ap (λ (p : Parts). read_alone k p None) c.deref-in-None.ensures
    ∙ ap (λ (e : Option Encoding). read_alone k (arc_value a.parts) (words_with e)) (sym c.in-None.is) in
    ap (λ (r : Reading). r.seen) (lent-array a c.args.self.now c.of-in-None.result c.self.view_is same) ∙ c.self.view_is
