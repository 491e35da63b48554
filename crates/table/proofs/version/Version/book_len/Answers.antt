use Rattle.std.proofs.Common.{◌∙◌, ap, length, sym}
use Rattle.table.specs.Contents.{Contents}
use Rattle.table.proofs.StorageLemmas.{length-book}
use Rattle.table.proofs.version.Version.book_len.Goals as goal

pub returns : goal.returns
returns c = c.len.ensures ∙ sym (length-book c.storage.result.now) ∙ ap (λ (s : Contents). length s.history) c.storage.ensures.shown
