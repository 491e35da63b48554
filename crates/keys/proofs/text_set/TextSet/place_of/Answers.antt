use Rattle.std.proofs.Common.{◌≡◌, false, subst}
use Rattle.std.specs.Prelude.{slice_get, Some}
use Rattle.std.specs.List.{list_any}
use Rattle.std.specs.Option.{ForSome}
use Rattle.std.specs.Str.{bytes_eq}
use Rattle.keys.proofs.TextLemmas.{text_absent, text_there}
use Rattle.keys.proofs.text_set.TextSet.place_of.Goals as goal

pub returns-clause-there : goal.returns-clause-there
returns-clause-there c = subst (λ l. ForSome c.get_index_of.result (λ n. slice_get l n ≡ Some c.args.text.now)) c.self.view_is
    (text_there c.self.inside.texts.keys c.args.text.now c.get_index_of.result c.get_index_of.ensures.index)

pub returns-clause-absent : goal.returns-clause-absent
returns-clause-absent c none = subst (λ l. list_any (bytes_eq c.args.text.now) l ≡ false) c.self.view_is
    (text_absent c.args.text.now c.self.inside.texts.keys c.get_index_of.result c.get_index_of.ensures.found none)
