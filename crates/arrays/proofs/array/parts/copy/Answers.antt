use Rattle.std.proofs.Common.{◌∙◌, map, None, ap, refl}
use Rattle.layout.specs.Reading.{reading}
use Rattle.layout.proofs.CopyLemmas.{reading-made, read_checked-copy}
use Rattle.arrays.proofs.array.parts.copy.Goals as goal

pub returns : goal.returns
returns c =
    let p = c.args.parts.now in
    reading-made _
    ∙ read_checked-copy c.in_ok-copy.field-0 p.ty p.length c.in_ok-buffers.field-0.items p.buffers.items c.in_ok-children.field-0.items p.children.items None None
    c.in_ok-copy.ensures (c.in_ok-buffers.ensures ∙ c.deref.ensures.value) (c.in_ok-children.ensures ∙ ap (map reading) c.deref-2.ensures.value) refl
