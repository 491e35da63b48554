use Rattle.std.proofs.Common.{◌≡◌, ◌∙◌, ◌/◌, ◌%◌, ◌<◌, ap, arith, length}
use Rattle.std.specs.Prelude.{slice_index_or}
use Rattle.std.specs.Arc.{arc_value}
use Rattle.std.specs.declared.alloc.Global.{Global}
use Rattle.std.specs.declared.sync.Arc.{Arc}
use Rattle.std.specs.declared.vec.Vec.{Vec}
use Rattle.table.proofs.ChunksLemmas.{chunk-full, in-chunk, in-last, last-long}
use Rattle.table.proofs.chunks.Chunks.get.Goals as goal

pub index-requires-then-chunk-len : goal.index-requires-then-chunk-len
index-requires-then-chunk-len g c =
    let inside = c.self.inside in
    let i = c.args.i in
    let shared = c.index.result.now in
    let full : length (arc_value shared).items ≡ 128 =
    chunk-full g.row.T.Denot (arc_value inside.full).items (arc_value inside.last).items inside.len c.self.invariant c.args.self.now c.self.view_is i c.requires shared
    (omega (arith, c.if-chunk-len.true, c.len.ensures, c.deref.result.now.ok.0, ap (λ (v : Vec (Arc (Vec g.row.T.Denot Global) Global) Global). length v.items) c.deref.ensures))
    (c.index.ensures ∙ ap (λ (v : Vec (Arc (Vec g.row.T.Denot Global) Global) Global). slice_index_or v.items (i / 128) shared) c.deref-then-chunk-len.ensures) in
    omega (arith, full, c.deref-then-chunk-len-2.result.now.ok.0, ap (λ (v : Vec g.row.T.Denot Global). length v.items) c.deref-then-chunk-len-2.ensures)

pub index-requires-else-chunk-len : goal.index-requires-else-chunk-len
index-requires-else-chunk-len g c =
    let inside = c.self.inside in
    let long : c.args.i % 128 < length (arc_value inside.last).items =
    last-long g.row.T.Denot (arc_value inside.full).items (arc_value inside.last).items inside.len c.self.invariant c.args.self.now c.self.view_is c.args.i c.requires
    (omega (arith, c.if-chunk-len.false, c.len.ensures, c.deref.result.now.ok.0, ap (λ (v : Vec (Arc (Vec g.row.T.Denot Global) Global) Global). length v.items) c.deref.ensures)) in
    omega (arith, long, c.deref-else-chunk-len.result.now.ok.0, ap (λ (v : Vec g.row.T.Denot Global). length v.items) c.deref-else-chunk-len.ensures)

pub returns-then-chunk-len : goal.returns-then-chunk-len
returns-then-chunk-len g c =
    let inside = c.self.inside in
    let i = c.args.i in
    let shared = c.index.result.now in
    let x = c.index-then-chunk-len.result.now in
    in-chunk g.row.T.Denot (arc_value inside.full).items (arc_value inside.last).items inside.len c.self.invariant c.args.self.now c.self.view_is i c.requires shared
    (omega (arith, c.if-chunk-len.true, c.len.ensures, c.deref.result.now.ok.0, ap (λ (v : Vec (Arc (Vec g.row.T.Denot Global) Global) Global). length v.items) c.deref.ensures))
    (c.index.ensures ∙ ap (λ (v : Vec (Arc (Vec g.row.T.Denot Global) Global) Global). slice_index_or v.items (i / 128) shared) c.deref-then-chunk-len.ensures) x
    (c.index-then-chunk-len.ensures ∙ ap (λ (v : Vec g.row.T.Denot Global). slice_index_or v.items (i % 128) x) c.deref-then-chunk-len-2.ensures)

pub returns-else-chunk-len : goal.returns-else-chunk-len
returns-else-chunk-len g c =
    let inside = c.self.inside in
    let i = c.args.i in
    let x = c.index-else-chunk-len.result.now in
    in-last g.row.T.Denot (arc_value inside.full).items (arc_value inside.last).items inside.len c.self.invariant c.args.self.now c.self.view_is i c.requires
    (omega (arith, c.if-chunk-len.false, c.len.ensures, c.deref.result.now.ok.0, ap (λ (v : Vec (Arc (Vec g.row.T.Denot Global) Global) Global). length v.items) c.deref.ensures)) x
    (c.index-else-chunk-len.ensures ∙ ap (λ (v : Vec g.row.T.Denot Global). slice_index_or v.items (i % 128) x) c.deref-else-chunk-len.ensures)
