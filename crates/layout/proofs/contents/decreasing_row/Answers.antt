use Rattle.std.proofs.Common.{◌∙◌, ap, int_lt, sym, ◌+◌}
use Rattle.types.specs.Prelude.{kind_of, number_at, offset_type}
use Rattle.layout.specs.Fault.{least_row}
use Rattle.layout.proofs.OffsetLemmas.{decreasing_row-offsets}
use Rattle.layout.proofs.contents.decreasing_row.Goals as goal

pub returns-in-Some : goal.returns-in-Some
returns-in-Some c =
    let w = c.in-Some.width in
    c.least_decreasing.ensures
    ∙ ap (λ bytes. least_row (λ j. int_lt (number_at (offset_type w) bytes (j + 1)) (number_at (offset_type w) bytes j)) c.args.n) c.bytes_at.ensures
    ∙ sym (decreasing_row-offsets (kind_of c.args.ty.now) w c.args.n c.args.buffers.now (sym c.offset_width.ensures ∙ c.in-Some.is))
