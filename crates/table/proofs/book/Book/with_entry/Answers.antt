use Rattle.std.proofs.Common.{◌≡◌, ◌∙◌, ◌∷◌, ◌++◌, [], ap}
use Rattle.table.specs.Book.{pair_of}
use Rattle.table.specs.declared.entry.Entry.{Entry}
use Rattle.table.proofs.ChunksLemmas.{copies-pushed}
use Rattle.table.proofs.book.Book.with_entry.Goals as goal

pub returns : goal.returns
returns c =
    copies-pushed (λ (x y : Entry). y ≡ x) pair_of (λ x y e. ap pair_of e) c.self.inside.entries c.in_ok-entries.entries c.args.entry c.in_ok-entries.ensures
    ∙ ap (λ l. l ++ pair_of c.args.entry ∷ []) c.self.view_is
