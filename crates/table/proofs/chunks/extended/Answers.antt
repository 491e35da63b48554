use Rattle.std.proofs.Common.{◌≡◌, ◌⊎◌, ◌+◌, ◌∷◌, ◌++◌, [], List, arith, inl, inr, length, refl, subst, sym, take}
use Rattle.table.specs.Chunks.{AreCopies}
use Rattle.std.proofs.lemmas.List.{take_all}
use Rattle.std.proofs.lemmas.List.Elements.{AllZip-push, all_zip_more}
use Rattle.table.proofs.chunks.extended.Goals as goal

pub loop-one-preserved : goal.loop-one-preserved
loop-one-preserved g c =
    subst (λ (l : List g.row.T.Denot). AreCopies g.T.Clone.is_clone (take (c.loop-one.one-index + 1) c.args.values.now) l) (sym c.in_ok-push.ensures.items)
    (all_zip_more (λ x y. (y ≡ x) ⊎ g.T.Clone.is_clone x y) c.args.values.now c.loop-one.all.items c.loop-one.one-index c.one-item.result c.in_ok-clone.field-0 (omega (arith, c.loop-one-test.true)) c.one-item.is c.loop-one.invariant (inr c.in_ok-clone.ensures.cases))

pub returns : goal.returns
returns g c =
    subst (λ (l : List g.row.T.Denot). AreCopies g.T.Clone.is_clone (c.args.values.now ++ c.args.value ∷ []) l) (sym c.in_ok-push-2.ensures.items)
    (AllZip-push (λ x y. (y ≡ x) ⊎ g.T.Clone.is_clone x y) c.args.values.now c.loop-one.all.items c.args.value c.args.value
    (subst (λ (l : List g.row.T.Denot). AreCopies g.T.Clone.is_clone l c.loop-one.all.items) (take_all c.loop-one.one-index c.args.values.now (omega (arith, c.loop-one-test.false))) c.loop-one.invariant)
    (inl refl))
