use Rattle.std.proofs.Common.{Some, refl, sym, subst}
use Rattle.json_read.specs.Prelude.{array, no_items}
use Rattle.json_scan.specs.Spelling.{before}
use Rattle.json_scan.proofs.Values.{if_ok_then}
use Rattle.json_file.specs.Dictionary.{AreEntries}
use Rattle.json_file.proofs.catalog.dictionaries_at.Goals as goal

pub returns-then-has_some-clause-ok : goal.returns-then-has_some-clause-ok
returns-then-has_some-clause-ok c =
    let read = c.in_ok-entries.ensures in
    if_ok_then c.dictionaries_of.result c.dictionaries_of.ensures.entries
    (λ dictionaries same. (Some (array (before read.0 no_items)), read.1, read.0, subst (AreEntries read.0) (sym same) read.2, λ some. refl))
