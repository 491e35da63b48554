use Rattle.std.proofs.Common.{◌∙◌, ap, sym}
use Rattle.arrays.specs.Prelude.{Seen, valid_at}
use Rattle.select.proofs.JoinedNumbers.{valid-place}
use Rattle.select.proofs.joining.valid.JoinedSlotsPlaces.at.Goals as goal

pub returns : goal.returns
returns c =
    let place = c.place_of-k.result in
    c.is_valid.ensures.validity
    ∙ ap (λ (q : Seen). valid_at q place.1) (sym c.index-self-k.is)
    ∙ sym (valid-place c.args.self.now.views.now c.args.i place.0 place.1 c.index-self-k.result c.place_of-k.ensures c.index-self-k.is)
