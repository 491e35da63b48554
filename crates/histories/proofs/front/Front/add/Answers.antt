use Rattle.std.proofs.Common.{sym, ◌∙◌, ap, length}
use Rattle.histories.proofs.AddLemmas.{adds_moves}
use Rattle.histories.proofs.front.Front.add.Goals as goal

pub compare_exchange-found-requires : goal.compare_exchange-found-requires
compare_exchange-found-requires g c =
    let head = c.args.head.now.is_head in
    let seen = c.again-seen.ensures in
    let offer = c.plain-offer.ensures in
    let pen = c.no_pen-pen.ensures in
    let book = ap (λ s. s.book) seen ∙ (c.self.invariant.book ∙ sym (ap (λ w. w.book) head)) in (
      ap (λ w. w.tracked) head,
      book,
      pen.0 ∙ book,
      offer.0,
      rw (ap (λ w. w.key) head, pen.1, offer.1, offer.3) (adds_moves c.again-seen.result.log (g.X.Noted.noted c.args.entry.now) c.self.inside.count (sym (c.self.invariant.count ∙ ap (λ s. length s.log) (sym seen)))),
    )
