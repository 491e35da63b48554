use Rattle.std.proofs.Common.{◌∙◌, ap, map}
use Rattle.keys.specs.PartSets.{one}
use Rattle.keys.proofs.PartSetLemmas.{inserted_shown, ones_alike, part_eq, place_shown}
use Rattle.keys.proofs.part_set.place_in_parts.Goals as goal

pub returns-clause-keys : goal.returns-clause-keys
returns-clause-keys c = ap (map one) c.in_ok-place.ensures.keys ∙ inserted_shown one part_eq ones_alike c.args.parts.now.keys c.args.part

pub returns-clause-place : goal.returns-clause-place
returns-clause-place c =
    let s = c.in_ok-place.ensures.stored in
    place_shown one part_eq ones_alike c.insert_full.new.self.keys c.in_ok-place.place c.args.part s.0 s.1 s.2
