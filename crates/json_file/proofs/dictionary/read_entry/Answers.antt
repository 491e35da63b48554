use Rattle.std.proofs.Common.{◌∙◌, Some, sym, ap, to_z, of_z, rules}
use Rattle.std.specs.Int.{w128}
use Rattle.std.specs.Prelude.{FitsSigned}
use Rattle.std.proofs.lemmas.Int.{to_z-of_z}
use Rattle.json_read.specs.Prelude.{object}
use Rattle.json_file.proofs.DictionaryLemmas.{entry_held}
use Rattle.json_file.proofs.dictionary.read_entry.Goals as goal

pub returns-clause-ok : goal.returns-clause-ok
returns-clause-ok c =
    let read = c.in_ok-end.ensures.ok in
    let id = c.in-Some.id in
    let fits : FitsSigned w128 id = search rules in
    (object read.0, read.1, entry_held read.0 c.read_object.new.visitor (to_z w128 (of_z w128 id)) (read.2 record { id = tt; words = tt }) (c.in-Some.is ∙ ap Some (sym (to_z-of_z w128 id fits))))
