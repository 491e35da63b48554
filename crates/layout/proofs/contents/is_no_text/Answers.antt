use Rattle.std.proofs.Common.{◌∙◌, ◌&&◌, Bool, not, ap, sym}
use Rattle.std.specs.Str.{is_utf8}
use Rattle.layout.specs.Layout.{is_valid}
use Rattle.layout.proofs.RowLemmas.{is_utf8-same}
use Rattle.layout.proofs.contents.is_no_text.Goals as goal

pub returns-then-is_valid : goal.returns-then-is_valid
returns-then-is_valid c =
    let text = c.text_at.result.now in
    ap not (is_utf8-same c.is_utf8.result text c.is_utf8.ensures)
    ∙ ap (λ (v : Bool). v && not (is_utf8 text)) (sym c.if-is_valid.true ∙ c.is_valid.ensures)
    ∙ ap (λ t. is_valid c.args.buffers.now c.args.j && not (is_utf8 t)) c.text_at.ensures
