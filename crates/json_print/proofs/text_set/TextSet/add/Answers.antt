use Rattle.std.proofs.Common.{◌≡◌, ◌++◌, ◌∷◌, [], OnOk, sym, ap, subst, if◌then◌else◌}
use Rattle.std.specs.Str.{bytes_eq}
use Rattle.pool.proofs.PlaceLemmas.{among_found, among_missing, with_text-new}
use Rattle.json_print.proofs.text_set.TextSet.add.Goals as goal

pub returns-in-Some : goal.returns-in-Some
returns-in-Some c =
    let ts = c.args.self.now in
    let t = c.args.text.now in
    sym (ap (λ b. if b then ts else ts ++ t ∷ []) (among_found (bytes_eq t) ts c.in-Some.field-0 (sym c.in-Some.ensures)))

pub add_new-requires : goal.add_new-requires
add_new-requires c = among_missing (bytes_eq c.args.text.now) c.args.self.now (sym c.in-None.ensures)

pub returns-in-None : goal.returns-in-None
returns-in-None c =
    let new = among_missing (bytes_eq c.args.text.now) c.args.self.now (sym c.in-None.ensures) in
    subst (λ l. OnOk c.add_new.result (c.add_new.new.self ≡ l)) (sym (with_text-new c.args.self.now c.args.text.now new)) c.add_new.ensures
