use Rattle.std.proofs.Common.{◌≡◌, ◌∙◌, ◌++◌, [], ◌∷◌, List, ap, arith, map, subst, sym}
use Rattle.std.specs.Arc.{arc_value}
use Rattle.std.specs.declared.alloc.Global.{Global}
use Rattle.std.specs.declared.sync.Arc.{Arc}
use Rattle.std.specs.declared.vec.Vec.{Vec}
use Rattle.std.proofs.lemmas.Option.{get_or_from_slice_get}
use Rattle.std.proofs.lemmas.List.{length-map, map-append}
use Rattle.arrays.specs.Prelude.{Batch, kind_of}
use Rattle.compaction.specs.Under.{pieces_of}
use Rattle.answers.specs.Prelude.{ColumnStats}
use Rattle.table.specs.Widening.{AreWider}
use Rattle.table.proofs.WiderLemmas.{at-image, pieces-all, pieces-more}
use Rattle.table.proofs.widening.wider_pieces.Goals as goal

abbrev Piece : Type 0
Piece = Arc (Vec ColumnStats Global) Global

abbrev items_in : Piece → List ColumnStats
items_in p = (arc_value p).items

pub loop-k-preserved : goal.loop-k-preserved
loop-k-preserved c =
    let k = kind_of c.args.ty.now in
    let batches = c.args.batches.now in
    let pieces = c.args.batch_stats.now in
    let i = c.loop-k.k in
    let b = c.index-batches-k.result in
    let p = c.get.result.now in
    let new = c.in_ok-new.field-0 in
    let one : AreWider k (arc_value b).rows (items_in p) (items_in new) =
    subst (λ (v : Vec ColumnStats Global). AreWider k (arc_value b).rows (items_in p) v.items) (sym c.in_ok-new.ensures.ok)
    (subst (λ m. AreWider k m (items_in p) c.in_ok-stats.stats.items) (c.from-rows.ensures ∙ c.rows.ensures ∙ ap (λ (x : Batch). x.rows) c.deref.ensures)
    (subst (λ (l : List ColumnStats). AreWider k c.from-rows.result l c.in_ok-stats.stats.items)
    (c.deref-in-loop-k-2.ensures.value ∙ ap (λ (v : Vec ColumnStats Global). v.items) c.deref-in-loop-k.ensures) c.in_ok-stats.ensures)) in
    let pushed : pieces_of c.push.new.self.items ≡ pieces_of c.loop-k.wider.items ++ items_in new ∷ [] =
    ap pieces_of c.in_ok-push.ensures.items ∙ map-append (λ (x : Piece). items_in x) c.loop-k.wider.items (new ∷ []) in
    pieces-more k (map (λ (x : Arc Batch Global). arc_value x) batches) (pieces_of pieces) (pieces_of c.loop-k.wider.items) (pieces_of c.push.new.self.items) i (arc_value b) (items_in p) (items_in new)
    (omega (arith, c.loop-k-test.true, length-map batches (λ (x : Arc Batch Global). arc_value x)))
    (length-map pieces (λ (x : Piece). items_in x) ∙ c.requires ∙ sym (length-map batches (λ (x : Arc Batch Global). arc_value x)))
    (at-image (λ (x : Arc Batch Global). arc_value x) batches i b c.loop-k-test.true c.index-batches-k.is)
    (at-image (λ (x : Piece). items_in x) pieces i p (omega (arith, c.loop-k-test.true, c.requires)) (sym (get_or_from_slice_get pieces i p p c.get.ensures)))
    pushed c.loop-k.invariant one

pub returns : goal.returns
returns c =
    pieces-all (kind_of c.args.ty.now) (map (λ (x : Arc Batch Global). arc_value x) c.args.batches.now) (pieces_of c.args.batch_stats.now) (pieces_of c.loop-k.wider.items) c.loop-k.k
    (omega (arith, c.loop-k-test.false, length-map c.args.batches.now (λ (x : Arc Batch Global). arc_value x))) c.loop-k.invariant
