use Rattle.std.proofs.Common.{rules}
use Rattle.json_file.proofs.DictionaryLemmas.{no_entries}
use Rattle.json_file.proofs.dictionary.read_entries.Goals as goal

pub returns-clause-ok : goal.returns-clause-ok
returns-clause-ok c =
    let read = c.in_ok-end.ensures.ok in
    (read.0, read.1, read.2 (no_entries c.new.result.items (search rules)))
