use Rattle.std.proofs.Common.{◌∙◌, ℕ, List, ap, arith, length, sym}
use Rattle.std.specs.Prelude.{slice_get}
use Rattle.table.specs.Prelude.{Contents, book}
use Rattle.table.proofs.StorageLemmas.{book-shown, length-book}
use Rattle.table.proofs.version.Version.book_at.Goals as goal

pub get-requires : goal.get-requires
get-requires c = omega (arith, c.requires, length-book c.storage.result.now, ap (λ (s : Contents). length s.history) c.storage.ensures.shown)

pub returns : goal.returns
returns c =
    ap (λ (s : Contents). slice_get (book s.history) c.args.i) (sym c.storage.ensures.shown)
    ∙ ap (λ (l : List (ℕ × ℕ)). slice_get l c.args.i) (book-shown c.storage.result.now c.storage.ensures.lawful)
    ∙ c.get.ensures
