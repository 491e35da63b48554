use Rattle.std.proofs.Common.{◌≡◌, ◌++◌, ◌∷◌, [], false, map, subst, sym}
use Rattle.std.specs.List.{list_any}
use Rattle.std.specs.Str.{bytes_eq}
use Rattle.std.specs.String.{string_bytes}
use Rattle.keys.proofs.TextLemmas.{text_pushed}
use Rattle.keys.proofs.text_set.TextSet.add_new.Goals as goal

pub returns-clause-texts : goal.returns-clause-texts
returns-clause-texts c =
    let t = c.args.text.now in
    let keys = c.self.inside.texts.keys in
    let new = c.insert_full.new.self.keys in
    subst (λ l. map string_bytes new ≡ l ++ t ∷ []) c.self.view_is
    (text_pushed keys new c.in_ok-copy.copy t c.in_ok-insert_full.ensures.keys c.in_ok-copy.ensures.ok (subst (λ l. list_any (bytes_eq t) l ≡ false) (sym c.self.view_is) c.requires))
