use Rattle.std.proofs.Common.{◌∙◌, map, ap, refl}
use Rattle.layout.specs.Reading.{reading}
use Rattle.layout.proofs.CopyLemmas.{reading-copy}
use Rattle.layout.proofs.+raw_copy.Goals as goal

pub raw::RawArray::copy-returns : goal.raw::RawArray::copy-returns
raw::RawArray::copy-returns t c =
    reading-copy _ c.args.self.now c.in_ok-copy.ensures refl refl
    (c.in_ok-buffers.ensures ∙ c.deref.ensures.value)
    (c.in_ok-children.ensures ∙ ap (map reading) c.deref-2.ensures.value)
    c.in_ok-dictionary.ensures
