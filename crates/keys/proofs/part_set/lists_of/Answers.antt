use Rattle.std.proofs.Common.{◌∙◌, ap, arith, map, subst, sym}
use Rattle.std.specs.List.{IsDistinct}
use Rattle.keys.specs.PartSets.{one, parts_listed}
use Rattle.keys.specs.declared.part.Part.TheVariants as part
use Rattle.keys.proofs.PartSetLemmas.{ones_alike, part_eq, part_eq_equiv, shown_all, shown_more}
use Rattle.keys.proofs.part_set.lists_of.Goals as goal

pub loop-part-preserved : goal.loop-part-preserved
loop-part-preserved c =
    shown_more one part_eq ones_alike part.Null _ c.loop-part.part-index (parts_listed c.loop-part.lists.keys) (parts_listed c.place_in_lists.new.lists.keys) c.alone.result.items
    c.loop-part-test.true c.loop-part.invariant c.alone.ensures c.in_ok-place_in_lists.ensures.keys

pub returns : goal.returns
returns c =
    let xs = c.as_slice-part-items.result.now in
    shown_all one part_eq ones_alike part.Null part_eq_equiv xs c.loop-part.part-index (parts_listed c.loop-part.lists.keys) (omega (arith, c.loop-part-test.false))
    (subst (IsDistinct part_eq) (sym c.as_slice-part-items.ensures.keys) c.as_slice-part-items.ensures.unique) c.loop-part.invariant
    ∙ ap (map one) c.as_slice-part-items.ensures.keys
