use Rattle.std.proofs.Common.{◌∙◌, ap}
use Rattle.std.proofs.lemmas.Result.{IfOk-weaker}
use Rattle.layout.specs.Seen.{Seen}
use Rattle.arrays.specs.Prelude.{Column, shown}
use Rattle.types.specs.Kind as kind
use Rattle.arrays.proofs.BuilderLemmas.{numbers-shown}
use Rattle.arrays.proofs.builder.IntBuilder.finish.Goals as goal

pub returns-clause-whole : goal.returns-clause-whole
returns-clause-whole c =
    let s = c.self.inside in
    IfOk-weaker c.from_numbers.result _ _
    (λ a is. is
    ∙ numbers-shown s.ty c.len-len.result s.values.items c.in_ok-values.values s.valid c.in_ok-validity.validity c.buffer_of.result c.len-len.ensures.count c.in_ok-values.ensures
    c.in_ok-validity.ensures c.buffer_of.ensures
    ∙ ap (λ (b : Column). shown (kind.int b.ty) b.items) c.self.view_is)
    c.from_numbers.ensures

pub returns-clause-items : goal.returns-clause-items
returns-clause-items c = IfOk-weaker c.from_numbers.result _ _ (λ a is. ap (λ (s : Seen). s.items) is) (returns-clause-whole c)
