use lib.Pointwise.{pointwise}
use Rattle.std.proofs.Common.{◌∙◌, ap}
use Rattle.arrayvec.specs.ArrayVec.{ArrayVec}
use Rattle.keys.specs.PartSets.{parts_listed}
use Rattle.keys.specs.declared.part.Part.{Part}
use Rattle.keys.proofs.PartSetLemmas.{are_same_parts, inserted_shown, part_eq, place_shown}
use Rattle.keys.proofs.part_set.place_in_lists.Goals as goal

pub returns-clause-keys : goal.returns-clause-keys
returns-clause-keys c =
    ap parts_listed c.in_ok-place.ensures.keys
    ∙ inserted_shown (λ (v : ArrayVec Part). v.items) (λ v w. pointwise part_eq v.items w.items) (λ v w. are_same_parts v.items w.items) c.args.lists.now.keys c.args.parts

pub returns-clause-place : goal.returns-clause-place
returns-clause-place c =
    let s = c.in_ok-place.ensures.stored in
    place_shown (λ (v : ArrayVec Part). v.items) (λ v w. pointwise part_eq v.items w.items) (λ v w. are_same_parts v.items w.items)
    c.insert_full.new.self.keys c.in_ok-place.place c.args.parts s.0 s.1 s.2
