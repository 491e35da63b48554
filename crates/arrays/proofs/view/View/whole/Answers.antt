use Rattle.std.proofs.Common.{map, None, option_map, arith}
use Rattle.std.specs.Arc.{arc_value}
use Rattle.layout.specs.Prelude.{checked_texts, read_checked, reading}
use Rattle.arrays.specs.ViewType.{view_kind}
use Rattle.layout.proofs.SeenLemmas.{part-all, Fits-seen, short-of_lawful}
use Rattle.arrays.proofs.view.View.whole.Goals as goal

pub invariant_of-result : goal.invariant_of-result
invariant_of-result c =
    let a = c.args in
    let words = option_map (λ w. arc_value w.now) a.words in record {
      lawful = c.requires;
      within = omega arith;
      few = short-of_lawful (view_kind a.ty) a.total None a.buffers.now (map reading a.children.now) (option_map checked_texts words) c.requires;
    }

pub returns : goal.returns
returns c =
    let a = c.args in
    let words = option_map (λ w. arc_value w.now) a.words in
    part-all a.total (read_checked (view_kind a.ty) a.total a.buffers.now a.children.now words).seen
    (Fits-seen (view_kind a.ty) a.total None a.buffers.now (map reading a.children.now) (option_map checked_texts words))
