use Rattle.std.proofs.Common.{◌∙◌, ◌+◌, ap, arith, length, sym}
use Rattle.arrays.specs.Prelude.{Seen, valid_in}
use Rattle.select.proofs.JoinedNumbers.{place-behind, valid-place}
use Rattle.select.proofs.joining.valid.JoinedSlotsPlaces.word.Goals as goal

pub returns-then-j-len : goal.returns-then-j-len
returns-then-j-len c = λ m h.
    let views = c.args.self.now.views.now in
    let place = c.place_of-k.result in
    let s = c.index-self-k.result in
    let there = place-behind views c.args.i place.0 place.1 m s c.place_of-k.ensures c.index-self-k.is (omega (arith, c.if-j-len.true, c.len.ensures, ap (λ (q : Seen). length q.items) c.index-self-k.is, h)) in
    c.valid_word.ensures m h
    ∙ ap (λ v. valid_in v (place.1 + m)) (c.validity.ensures ∙ ap (λ (q : Seen). q.validity) (sym c.index-self-k.is))
    ∙ sym (valid-place views (c.args.i + m) place.0 (place.1 + m) s there c.index-self-k.is)
