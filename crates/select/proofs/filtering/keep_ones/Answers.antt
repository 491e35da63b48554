use Rattle.std.proofs.Common.{◌∙◌, List, IfErr, ap, length, subst, sym}
use Rattle.std.specs.List.{All}
use Rattle.arrays.specs.Prelude.{Item, is_too_big}
use Rattle.select.specs.Prelude.{IsFull, IsPick, picked, rows_of_ones}
use Rattle.select.proofs.ChosenLemmas.{chosen-kept}
use Rattle.select.proofs.SelectionLemmas.{ones-kept, ones-within}
use Rattle.select.proofs.filtering.keep_ones.Goals as goal

pub gather-requires : goal.gather-requires
gather-requires c =
    let s = c.args.view.now in
    let mask = c.args.mask.now in
    subst (λ b. All (IsPick (length s.items)) (rows_of_ones b)) (sym c.of.ensures)
    (subst (λ n. All (IsPick n) (rows_of_ones c.args.bits)) c.requires.lengths (ones-within mask.items c.args.bits c.requires.trues))

pub returns-clause-ok : goal.returns-clause-ok
returns-clause-ok c =
    let mask = c.args.mask.now in
    chosen-kept c.args.view.now mask (rows_of_ones c.of.result.bits) c.gather.result c.requires.lengths
    (λ items same. ap (λ b. picked items (rows_of_ones b)) c.of.ensures ∙ ones-kept mask.items items c.args.bits c.requires.trues same) c.gather.ensures.ok c.gather.ensures.codes

pub returns-clause-err : goal.returns-clause-err
returns-clause-err c =
    let s = c.args.view.now in
    let mask = c.args.mask.now in
    let rows = ap (λ b. picked s.items (rows_of_ones b)) c.of.ensures ∙ ones-kept mask.items s.items c.args.bits c.requires.trues (sym c.requires.lengths) in
    subst (λ (items : List Item). IfErr c.gather.result (IsFull (is_too_big s.kind items))) rows c.gather.ensures.err
