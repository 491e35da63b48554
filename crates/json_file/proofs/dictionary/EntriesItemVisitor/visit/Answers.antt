use Rattle.json_file.proofs.DictionaryLemmas.{entries_more}
use Rattle.json_file.proofs.dictionary.EntriesItemVisitor.visit.Goals as goal

pub returns-clause-ok : goal.returns-clause-ok
returns-clause-ok c =
    let read = c.in_ok-entry.ensures.ok in
    (read.0, read.1, λ first ds h. entries_more ds read.0 c.args.self.now.entries.items _ c.in_ok-entry.entry.value h read.2 c.in_ok-push.ensures)
