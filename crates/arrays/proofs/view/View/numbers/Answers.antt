use Rattle.std.proofs.Common.{◌∙◌, ◌*◌, ◌+◌, ◌≤◌, length, ap, sym, subst}
use Rattle.colbits.specs.Slice.{slice}
use Rattle.types.specs.Kind.{bytes_of}
use Rattle.layout.specs.Prelude.{Seen, bytes_at}
use Rattle.arrays.specs.Values.{HasNumbers}
use Rattle.arrays.proofs.ViewLemmas.{kind-show_view}
use Rattle.arrays.proofs.SlotLemmas.{numbers-view}
use Rattle.arrays.proofs.view.View.numbers.Goals as goal

pub part-requires : goal.part-requires
part-requires c =
    let v = c.self.inside in
    let int = sym (kind-show_view v) ∙ ap (λ (s : Seen). s.kind) c.self.view_is ∙ c.requires in
    let there = (numbers-view c.args.ty v int c.self.invariant.lawful c.self.invariant.within).enough in
    subst (λ w. v.start * w + v.len * w ≤ length c.bytes_at-bytes.result.now) (sym c.bytes-width.ensures)
    (subst (λ b. v.start * bytes_of c.args.ty.bits + v.len * bytes_of c.args.ty.bits ≤ length b) (sym c.bytes_at-bytes.ensures) there)

pub returns : goal.returns
returns c =
    let v = c.self.inside in
    let int = sym (kind-show_view v) ∙ ap (λ (s : Seen). s.kind) c.self.view_is ∙ c.requires in
    let numbers = (numbers-view c.args.ty v int c.self.invariant.lawful c.self.invariant.within).numbers in
    let same =
    c.part.ensures
    ∙ ap (λ b. slice b (v.start * c.bytes-width.result) (v.len * c.bytes-width.result)) c.bytes_at-bytes.ensures
    ∙ ap (λ w. slice (bytes_at v.buffers.now 1) (v.start * w) (v.len * w)) c.bytes-width.ensures in
    subst (λ b. HasNumbers c.args.ty b c.args.self.now) (sym same) (subst (HasNumbers c.args.ty (slice (bytes_at v.buffers.now 1) (v.start * bytes_of c.args.ty.bits) (v.len * bytes_of c.args.ty.bits))) c.self.view_is numbers)
