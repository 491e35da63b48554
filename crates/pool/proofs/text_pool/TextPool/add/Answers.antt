use Rattle.std.proofs.Common.{◌≡◌, ◌++◌, ◌∷◌, [], Some, OnOk, IfErr, sym, ap, subst, if◌then◌else◌}
use Rattle.std.specs.Str.{bytes_eq}
use Rattle.pool.specs.Texts.{IsPoolFault, place_of, is_too_full}
use Rattle.pool.proofs.PlaceLemmas.{among_found, among_missing, with_text-new, placed}
use Rattle.pool.proofs.text_pool.TextPool.add.Goals as goal

pub returns-in-Some-clause-texts : goal.returns-in-Some-clause-texts
returns-in-Some-clause-texts c =
    let ts = c.args.self.now in
    let t = c.args.text.now in
    let at : place_of ts t ≡ Some c.in-Some.code = sym c.in-Some.ensures.place in
    sym (ap (λ b. if b then ts else ts ++ t ∷ []) (among_found (bytes_eq t) ts c.in-Some.code at))

pub add_new-requires : goal.add_new-requires
add_new-requires c = among_missing (bytes_eq c.args.text.now) c.args.self.now (sym c.in-None.ensures.place)

pub returns-in-None-clause-texts : goal.returns-in-None-clause-texts
returns-in-None-clause-texts c =
    let new = among_missing (bytes_eq c.args.text.now) c.args.self.now (sym c.in-None.ensures.place) in
    subst (λ l. OnOk c.add_new.result (c.add_new.new.self ≡ l)) (sym (with_text-new c.args.self.now c.args.text.now new)) c.add_new.ensures.texts

pub returns-in-None-clause-place : goal.returns-in-None-clause-place
returns-in-None-clause-place c =
    let new = among_missing (bytes_eq c.args.text.now) c.args.self.now (sym c.in-None.ensures.place) in
    placed c.add_new.result c.args.self.now c.add_new.new.self c.args.text.now new c.add_new.ensures.texts c.add_new.ensures.place

pub returns-in-None-clause-fault : goal.returns-in-None-clause-fault
returns-in-None-clause-fault c =
    let new = among_missing (bytes_eq c.args.text.now) c.args.self.now (sym c.in-None.ensures.place) in
    subst (λ l. IfErr c.add_new.result (IsPoolFault (is_too_full l)))
    (sym (with_text-new c.args.self.now c.args.text.now new)) c.add_new.ensures.fault
