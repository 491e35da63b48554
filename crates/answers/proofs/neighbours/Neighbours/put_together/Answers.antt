use Rattle.std.proofs.Common.{inr, refl, subst}
use Rattle.std.proofs.lemmas.Result.{err_from_is_err_and}
use Rattle.answers.specs.Pieces.{AreLooked}
use Rattle.answers.proofs.WholeLemmas.{front_refused, part_refused, pieces_joined, pieces_room}
use Rattle.answers.proofs.neighbours.Neighbours.put_together.Goals as goal

pub merge-requires : goal.merge-requires
merge-requires c =
    let r = c.requires in
    let n = r.7 in
    let early = subst (AreLooked r.0 r.1 r.2 r.3 r.4 r.5) c.in_ok-whole.was n.front in
    let late = subst (AreLooked r.0 r.1 r.2 r.3 r.5 r.6) c.in_ok-late.was n.behind in
    record { room = pieces_room r.0 r.1 r.2 n.few n.comparable r.3 r.4 r.5 r.6 n.one n.low n.high n.within c.in_ok-whole.whole c.in_ok-late.field-0 early late }

pub returns-in_err-whole : goal.returns-in_err-whole
returns-in_err-whole c fields q rows pieces from middle to n =
    let e = err_from_is_err_and c.from_residual.result c.from_residual.ensures.1 in
    let early = subst (AreLooked fields q rows pieces from middle) c.in_err-whole.was n.front in
    rw (e.1, e.2) (front_refused fields q rows n.few n.comparable pieces from middle to n.one n.low n.high n.within c.in_err-whole.field-0.0 early)

pub returns-in_err-late : goal.returns-in_err-late
returns-in_err-late c fields q rows pieces from middle to n =
    let e = err_from_is_err_and c.from_residual-in_err-late.result c.from_residual-in_err-late.ensures.1 in
    let early = subst (AreLooked fields q rows pieces from middle) c.in_ok-whole.was n.front in
    let late = subst (AreLooked fields q rows pieces middle to) c.in_err-late.was n.behind in
    rw (e.1, e.2) (part_refused fields q rows n.few n.comparable pieces from middle to n.one n.low n.high n.within c.in_ok-whole.whole c.in_err-late.field-0.0 early late)

pub returns-in_err-merge : goal.returns-in_err-merge
returns-in_err-merge c fields q rows pieces from middle to n =
    let e = err_from_is_err_and c.from_residual-in_err-merge.result c.from_residual-in_err-merge.ensures.1 in
    rw (e.1, e.2) (inr refl)

pub returns : goal.returns
returns c fields q rows pieces from middle to n =
    let early = subst (AreLooked fields q rows pieces from middle) c.in_ok-whole.was n.front in
    let late = subst (AreLooked fields q rows pieces middle to) c.in_ok-late.was n.behind in
    pieces_joined fields q rows n.few n.comparable pieces from middle to n.one n.low n.high n.within c.in_ok-whole.whole c.in_ok-late.field-0 c.merge.new.self early late c.in_ok-merge.ensures
