use Rattle.std.proofs.Common.{◌∙◌, ap, arith, map, nat_eq, sym}
use Rattle.std.specs.Prelude.{unwrap_or}
use Rattle.std.proofs.lemmas.Cmp.{nat_eq_equiv}
use Rattle.std.proofs.lemmas.Option.{slice_get-get_or}
use Rattle.keys.specs.PartSets.{one, part_of_code, parts_of_code}
use Rattle.keys.proofs.PartSetLemmas.{codes_alike, shown_all, shown_more}
use Rattle.keys.proofs.part_set.parts_of.Goals as goal

pub loop-place-preserved : goal.loop-place-preserved
loop-place-preserved c =
    shown_more parts_of_code nat_eq codes_alike 0 c.args.codes.now c.loop-place.place (map one c.loop-place.parts.keys) (map one c.place_in_parts.new.parts.keys) _
    (omega (arith, c.loop-place-test.true, c.len-place-end.ensures.count)) c.loop-place.invariant
    (ap one (c.part_of_code.ensures ∙ ap part_of_code (ap (λ o. unwrap_or o 0) (sym c.code_at.ensures ∙ slice_get-get_or c.args.codes.now c.loop-place.place 0 (omega (arith, c.loop-place-test.true, c.len-place-end.ensures.count))))))
    c.in_ok-place_in_parts.ensures.keys

pub returns : goal.returns
returns c =
    shown_all parts_of_code nat_eq codes_alike 0 nat_eq_equiv c.args.codes.now c.loop-place.place (map one c.loop-place.parts.keys) (omega (arith, c.loop-place-test.false, c.len-place-end.ensures.count))
    c.len-place-end.ensures.once c.loop-place.invariant
