use Rattle.std.proofs.Common.{arith, false, refl, true}
use Rattle.arrays.specs.Batch.{rows_of}
use Rattle.table.specs.Storage.{show}
use Rattle.table.proofs.CauseLemmas.{book-free, book-full, excess-by, table-free, table-full}
use Rattle.table.proofs.StorageLemmas.{count-shown, length-book}
use Rattle.table.proofs.cause.excess.Goals as goal

pub returns-then-storage-from-gt-MOST_ROWS : goal.returns-then-storage-from-gt-MOST_ROWS
returns-then-storage-from-gt-MOST_ROWS c =
    let s = c.args.storage.now in
    let b = c.args.batch.now in
    let full = table-full (show s).history b (omega (arith, count-shown s c.requires, c.rows.ensures, c.from.ensures, c.if-storage-from-gt-MOST_ROWS.true)) in
    excess-by (show s).history (rows_of b) true _ full refl

pub returns-then-len-eq-MOST_ENTRIES : goal.returns-then-len-eq-MOST_ENTRIES
returns-then-len-eq-MOST_ENTRIES c =
    let s = c.args.storage.now in
    let b = c.args.batch.now in
    let free = table-free (show s).history b (omega (arith, count-shown s c.requires, c.rows.ensures, c.from.ensures, c.if-storage-from-gt-MOST_ROWS.false)) in
    excess-by (show s).history (rows_of b) false true free (book-full (show s).history (omega (arith, length-book s, c.len.ensures, c.if-len-eq-MOST_ENTRIES.true)))

pub returns : goal.returns
returns c =
    let s = c.args.storage.now in
    let b = c.args.batch.now in
    let free = table-free (show s).history b (omega (arith, count-shown s c.requires, c.rows.ensures, c.from.ensures, c.if-storage-from-gt-MOST_ROWS.false)) in
    excess-by (show s).history (rows_of b) false false free (book-free (show s).history (λ full. omega (arith, full, length-book s, c.len.ensures, c.if-len-eq-MOST_ENTRIES.false)))
