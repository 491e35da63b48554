use Rattle.std.proofs.Common.{◌∙◌, [], ◌∷◌, List, ap, refl, subst, sym}
use Rattle.std.specs.Arc.{arc_value}
use mathlib.Core.List.{IsPrefix}
use Rattle.arrays.specs.Prelude.{Item, Seen, text}
use Rattle.test_arrays.proofs.makers.over_both.Goals as goal

pub with_dictionary-requires-clause-begun : goal.with_dictionary-requires-clause-begun
with_dictionary-requires-clause-begun c =
    subst (λ (l : List Item). IsPrefix l (arc_value c.in_ok-long.long).items) (sym (ap (λ (s : Seen). s.entries.items) c.dict-array.ensures ∙ ap (λ (s : Seen). s.items) (c.in_ok-short.ensures.ok ∙ c.of.ensures) ∙ c.in_ok-one.ensures.items))
    (subst (λ (l : List Item). IsPrefix (text c.args.first.now ∷ []) l) (sym (ap (λ (s : Seen). s.items) (c.in_ok-long.ensures.ok ∙ c.of-2.ensures) ∙ c.in_ok-two.ensures.items))
    (text c.args.second.now ∷ [], refl))
