use Rattle.std.proofs.Common.{◌≡◌, ◌∙◌, ◌∷◌, ◌++◌, [], List, ap, arith, length, map, subst, sym, refl}
use Rattle.std.specs.Arc.{arc_value}
use Rattle.std.specs.declared.alloc.Global.{Global}
use Rattle.std.specs.declared.sync.Arc.{Arc}
use Rattle.std.specs.declared.vec.Vec.{Vec}
use Rattle.std.proofs.lemmas.List.{map-append}
use Rattle.table.specs.Chunks.{AreCopies}
use Rattle.table.proofs.ChunksLemmas.{chunks-full, copies-full, copies-last}
use Rattle.table.proofs.chunks.Chunks.with.Goals as goal

pub returns-then-len-lt-CHUNK : goal.returns-then-len-lt-CHUNK
returns-then-len-lt-CHUNK g c =
    let inside = c.self.inside in
    let new = (arc_value c.in_ok-last.last).items in
    let are : AreCopies g.T.Clone.is_clone ((arc_value inside.last).items ++ c.args.value ∷ []) new =
    subst (λ (v : Vec g.row.T.Denot Global). AreCopies g.T.Clone.is_clone ((arc_value inside.last).items ++ c.args.value ∷ []) v.items) (sym c.in_ok-last.ensures.ok)
    (subst (λ (l : List g.row.T.Denot). AreCopies g.T.Clone.is_clone (l ++ c.args.value ∷ []) c.in_ok-extended.field-0.items)
    (c.deref-2.ensures.value ∙ ap (λ (v : Vec g.row.T.Denot Global). v.items) c.deref.ensures) c.in_ok-extended.ensures) in
    copies-last g.row.T.Denot g.T.Clone.is_clone (map arc_value (arc_value inside.full).items) (arc_value inside.last).items c.args.self.now c.args.value c.self.view_is new are
    (map arc_value (arc_value c.in_ok-full.full).items)
    (ap (λ (v : Vec (Arc (Vec g.row.T.Denot Global) Global) Global). map (λ (a : Arc (Vec g.row.T.Denot Global) Global). arc_value a) v.items) c.in_ok-full.ensures.cases)

pub invariant_of-result-2 : goal.invariant_of-result-2
invariant_of-result-2 g c =
    let inside = c.self.inside in
    let new = (arc_value c.in_ok-last.last).items in
    let are : AreCopies g.T.Clone.is_clone ((arc_value inside.last).items ++ c.args.value ∷ []) new =
    subst (λ (v : Vec g.row.T.Denot Global). AreCopies g.T.Clone.is_clone ((arc_value inside.last).items ++ c.args.value ∷ []) v.items) (sym c.in_ok-last.ensures.ok)
    (subst (λ (l : List g.row.T.Denot). AreCopies g.T.Clone.is_clone (l ++ c.args.value ∷ []) c.in_ok-extended.field-0.items)
    (c.deref-2.ensures.value ∙ ap (λ (v : Vec g.row.T.Denot Global). v.items) c.deref.ensures) c.in_ok-extended.ensures) in
    let others = (arc_value c.in_ok-new.field-0).items in
    let pushed : map (λ (a : Arc (Vec g.row.T.Denot Global) Global). arc_value a) others ≡ map (λ (a : Arc (Vec g.row.T.Denot Global) Global). arc_value a) (arc_value inside.full).items ++ arc_value c.in_ok-last.last ∷ [] =
    ap (λ (v : Vec (Arc (Vec g.row.T.Denot Global) Global) Global). map (λ (a : Arc (Vec g.row.T.Denot Global) Global). arc_value a) v.items) c.in_ok-new.ensures.ok
    ∙ ap (map (λ (a : Arc (Vec g.row.T.Denot Global) Global). arc_value a)) c.in_ok-push.ensures.items
    ∙ map-append (λ (a : Arc (Vec g.row.T.Denot Global) Global). arc_value a) c.in_ok-full-2.full.items (c.in_ok-last.last ∷ [])
    ∙ ap (λ l. l ++ arc_value c.in_ok-last.last ∷ []) (c.in_ok-full-2.ensures ∙ ap (map (λ (a : Arc (Vec g.row.T.Denot Global) Global). arc_value a)) (c.deref-5.ensures.value ∙ ap (λ (v : Vec (Arc (Vec g.row.T.Denot Global) Global) Global). v.items) c.deref-4.ensures)) in
    let none : (arc_value c.in_ok-new-2.field-0).items ≡ [] = ap (λ (v : Vec g.row.T.Denot Global). v.items) c.in_ok-new-2.ensures.ok ∙ c.new-3.ensures.items in
    chunks-full g.row.T.Denot g.T.Clone.is_clone (map arc_value (arc_value inside.full).items) (arc_value inside.last).items c.args.self.now c.args.value c.self.view_is new are
    (arc_value c.in_ok-last.last) refl (map arc_value others) pushed (arc_value c.in_ok-new-2.field-0).items none inside.len c.self.invariant
    (omega (arith, c.if-len-lt-CHUNK.false, c.len.ensures, c.deref-3.result.now.ok.0, ap (λ (v : Vec g.row.T.Denot Global). length v.items) c.deref-3.ensures))

pub returns : goal.returns
returns g c =
    let inside = c.self.inside in
    let new = (arc_value c.in_ok-last.last).items in
    let are : AreCopies g.T.Clone.is_clone ((arc_value inside.last).items ++ c.args.value ∷ []) new =
    subst (λ (v : Vec g.row.T.Denot Global). AreCopies g.T.Clone.is_clone ((arc_value inside.last).items ++ c.args.value ∷ []) v.items) (sym c.in_ok-last.ensures.ok)
    (subst (λ (l : List g.row.T.Denot). AreCopies g.T.Clone.is_clone (l ++ c.args.value ∷ []) c.in_ok-extended.field-0.items)
    (c.deref-2.ensures.value ∙ ap (λ (v : Vec g.row.T.Denot Global). v.items) c.deref.ensures) c.in_ok-extended.ensures) in
    let others = (arc_value c.in_ok-new.field-0).items in
    let pushed : map (λ (a : Arc (Vec g.row.T.Denot Global) Global). arc_value a) others ≡ map (λ (a : Arc (Vec g.row.T.Denot Global) Global). arc_value a) (arc_value inside.full).items ++ arc_value c.in_ok-last.last ∷ [] =
    ap (λ (v : Vec (Arc (Vec g.row.T.Denot Global) Global) Global). map (λ (a : Arc (Vec g.row.T.Denot Global) Global). arc_value a) v.items) c.in_ok-new.ensures.ok
    ∙ ap (map (λ (a : Arc (Vec g.row.T.Denot Global) Global). arc_value a)) c.in_ok-push.ensures.items
    ∙ map-append (λ (a : Arc (Vec g.row.T.Denot Global) Global). arc_value a) c.in_ok-full-2.full.items (c.in_ok-last.last ∷ [])
    ∙ ap (λ l. l ++ arc_value c.in_ok-last.last ∷ []) (c.in_ok-full-2.ensures ∙ ap (map (λ (a : Arc (Vec g.row.T.Denot Global) Global). arc_value a)) (c.deref-5.ensures.value ∙ ap (λ (v : Vec (Arc (Vec g.row.T.Denot Global) Global) Global). v.items) c.deref-4.ensures)) in
    let none : (arc_value c.in_ok-new-2.field-0).items ≡ [] = ap (λ (v : Vec g.row.T.Denot Global). v.items) c.in_ok-new-2.ensures.ok ∙ c.new-3.ensures.items in
    copies-full g.row.T.Denot g.T.Clone.is_clone (map arc_value (arc_value inside.full).items) (arc_value inside.last).items c.args.self.now c.args.value c.self.view_is new are
    (arc_value c.in_ok-last.last) refl (map arc_value others) pushed (arc_value c.in_ok-new-2.field-0).items none
