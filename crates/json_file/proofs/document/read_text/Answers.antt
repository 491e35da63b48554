use Rattle.std.proofs.Common.{◌≡◌, ◌∙◌, ◌≤◌, [], length, drop, refl, sym, ap, arith}
use Rattle.std.proofs.lemmas.List.{drop_all}
use Rattle.json_scan.specs.Prelude.{between, lex}
use Rattle.json_read.specs.Prelude.{object}
use Rattle.json_scan.proofs.Numbers.{no_lexemes}
use Rattle.json_scan.proofs.Values.{whole_document, if_ok_then}
use Rattle.json_file.proofs.document.read_text.Goals as goal

pub returns-clause-ok : goal.returns-clause-ok
returns-clause-ok c =
    let text = c.args.text.now in
    let read = c.in_ok-end.ensures.ok in
    let end = c.in_ok-end.end in
    let spaces = rw c.as_bytes.ensures.value at c.after_space.ensures.same in
    let past : length text ≤ c.after_space.result = omega (arith, c.if-after_space-text.false) in
    let ended : lex between (drop end text) ≡ [] = sym spaces ∙ (ap (lex between) (drop_all c.after_space.result text past) ∙ no_lexemes) in
    let held = read.2 (record { schema = refl; dictionaries = refl; batches = refl; file = tt }) in
    if_ok_then c.file_in.result c.file_in.ensures.ok (λ file reads. record { text = c.utf8.text; document = object read.0; parsed = whole_document text (drop end text) (object read.0) read.1 ended; file = reads read.0 held })

pub returns-clause-under : goal.returns-clause-under
returns-clause-under c =
    let read = c.in_ok-end.ensures.ok in
    if_ok_then c.file_in.result c.file_in.ensures.under (λ file under. under read.0 (read.2 (record { schema = refl; dictionaries = refl; batches = refl; file = tt })))
