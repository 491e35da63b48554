use Rattle.std.proofs.Common.{◌≡◌, ◌∙◌, None, ap}
use Rattle.types.specs.Kind.{kind_of}
use Rattle.layout.specs.Prelude.{Reading, read_checked}
use Rattle.arrays.specs.ViewType.{view_kind}
use Rattle.layout.specs.declared.raw.RawArray.{out-RawArray}
use Rattle.layout.proofs.ChildLemmas.{MakesArray-plain}
use Rattle.arrays.proofs.view.lists.child_view.Goals as goal

pub whole-requires : goal.whole-requires
whole-requires c =
    let raw = c.args.child.now in
    let r = out-RawArray raw in
    let same : read_checked (view_kind c.of.result) r.length c.deref.result.now c.deref-2.result.now None ≡ read_checked (kind_of r.ty) r.length r.buffers.items r.children.items None =
    ap (λ k. read_checked k r.length c.deref.result.now c.deref-2.result.now None) c.of.ensures
    ∙ ap (λ b. read_checked (kind_of r.ty) r.length b c.deref-2.result.now None) c.deref.ensures.value
    ∙ ap (λ cs. read_checked (kind_of r.ty) r.length r.buffers.items cs None) c.deref-2.ensures.value in
    ap (λ (q : Reading). q.fault) same ∙ (MakesArray-plain raw c.requires.lawful c.requires.plain).lawful

pub returns : goal.returns
returns c =
    let raw = c.args.child.now in
    let r = out-RawArray raw in
    let same : read_checked (view_kind c.of.result) r.length c.deref.result.now c.deref-2.result.now None ≡ read_checked (kind_of r.ty) r.length r.buffers.items r.children.items None =
    ap (λ k. read_checked k r.length c.deref.result.now c.deref-2.result.now None) c.of.ensures
    ∙ ap (λ b. read_checked (kind_of r.ty) r.length b c.deref-2.result.now None) c.deref.ensures.value
    ∙ ap (λ cs. read_checked (kind_of r.ty) r.length r.buffers.items cs None) c.deref-2.ensures.value in
    c.whole.ensures ∙ ap (λ (q : Reading). q.seen) same ∙ (MakesArray-plain raw c.requires.lawful c.requires.plain).shows
