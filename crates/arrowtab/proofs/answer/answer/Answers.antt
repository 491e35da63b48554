use Rattle.std.proofs.Common.{arith, map, option_map, refl, string_bytes, subst, sym}
use Rattle.std.proofs.lemmas.List.{length-map}
use Rattle.std.proofs.lemmas.Result.{err_from_is_err_and}
use Rattle.arrays.specs.Prelude.{field_of}
use Rattle.std.specs.Arc.{arc_value}
use Rattle.arrowtab.specs.Column.{IsWith}
use Rattle.arrowtab.proofs.AnswerLemmas.{adding_first, all_loaded, column_explains, column_first, err_explains, err_first, loading_explains, loading_first, ok_answers, query_first, reading_explains, reading_first, some_files}
use Rattle.arrowtab.proofs.answer.answer.Goals as goal

pub load_together-requires-clause-some : goal.load_together-requires-clause-some
load_together-requires-clause-some g c =
    let inputs = map g.S.Source.remaining c.args.sources.now in
    omega (arith, some_files inputs c.in_ok-files.files.items c.in_ok-files.ensures.read, length-map c.args.sources.now g.S.Source.remaining, c.requires.some)

pub returns-in_err-wanted-clause-first : goal.returns-in_err-wanted-clause-first
returns-in_err-wanted-clause-first g c =
    let p = err_from_is_err_and c.from_residual.result c.from_residual.ensures.1 in
    rw (p.1, p.2) (query_first c.args.job.now _ _ _ _ refl c.in_err-wanted.field-0.0 c.in_err-wanted.ensures.err)

pub returns-in_err-column-clause-first : goal.returns-in_err-column-clause-first
returns-in_err-column-clause-first g c =
    let p = err_from_is_err_and c.from_residual-in_err-column.result c.from_residual-in_err-column.ensures.1 in
    rw (p.1, p.2) (column_first c.args.job.now _ _ _ _ c.in_ok-wanted.wanted c.in_ok-wanted.ensures.ok refl c.in_err-column.field-0.0 c.in_err-column.ensures.err)

pub returns-in_err-files-clause-err : goal.returns-in_err-files-clause-err
returns-in_err-files-clause-err g c =
    let p = err_from_is_err_and c.from_residual-in_err-files.result c.from_residual-in_err-files.ensures.1 in
    rw (p.1, p.2) (reading_explains c.args.job.now _ _ _ c.in_err-files.field-0.0 c.in_err-files.ensures.err)

pub returns-in_err-files-clause-first : goal.returns-in_err-files-clause-first
returns-in_err-files-clause-first g c =
    let column = option_map field_of c.in_ok-column.column in
    let p = err_from_is_err_and c.from_residual-in_err-files.result c.from_residual-in_err-files.ensures.1 in
    rw (p.1, p.2)
    (reading_first c.args.job.now _ _ _ _ c.in_ok-wanted.wanted c.in_ok-wanted.ensures.ok column c.in_ok-column.ensures.ok c.in_err-files.field-0.0 c.in_err-files.ensures.err)

pub returns-in_err-loaded-clause-err : goal.returns-in_err-loaded-clause-err
returns-in_err-loaded-clause-err g c =
    let p = err_from_is_err_and c.from_residual-in_err-loaded.result c.from_residual-in_err-loaded.ensures.1 in
    rw (p.1, p.2) (loading_explains c.args.job.now _ c.in_ok-files.files.items c.in_ok-files.ensures.read c.in_ok-files.ensures.under _ _ c.in_err-loaded.field-0.0 c.in_err-loaded.ensures.err)

pub returns-in_err-loaded-clause-first : goal.returns-in_err-loaded-clause-first
returns-in_err-loaded-clause-first g c =
    let column = option_map field_of c.in_ok-column.column in
    let p = err_from_is_err_and c.from_residual-in_err-loaded.result c.from_residual-in_err-loaded.ensures.1 in
    rw (p.1, p.2)
    (loading_first c.args.job.now _ _ _ _ c.in_ok-wanted.wanted c.in_ok-wanted.ensures.ok column c.in_ok-column.ensures.ok c.in_ok-files.ensures.unfailed c.in_ok-files.files.items c.in_err-loaded.field-0.0
    c.in_err-loaded.ensures.err)

pub returns-in_err-version-clause-err : goal.returns-in_err-version-clause-err
returns-in_err-version-clause-err g c =
    let p = err_from_is_err_and c.from_residual-in_err-version.result c.from_residual-in_err-version.ensures.1 in
    rw (p.1, p.2) (column_explains c.args.job.now _ _ _ (option_map field_of c.in_ok-column.column) c.in_err-version.field-0.0 c.in_ok-column.ensures.ok c.in_err-version.ensures.err)

pub returns-in_err-version-clause-first : goal.returns-in_err-version-clause-first
returns-in_err-version-clause-first g c =
    let column = option_map field_of c.in_ok-column.column in
    let p = err_from_is_err_and c.from_residual-in_err-version.result c.from_residual-in_err-version.ensures.1 in
    rw (p.1, p.2)
    (adding_first c.args.job.now _ _ _ _ c.in_ok-wanted.wanted c.in_ok-wanted.ensures.ok c.in_ok-files.ensures.unfailed
    (all_loaded c.args.job.now _ c.in_ok-files.files.items c.in_ok-files.ensures.read c.in_ok-files.ensures.under _ c.in_ok-loaded.ensures.ok) column c.in_err-version.field-0.0 c.in_err-version.ensures.err)

pub returns-clause-ok : goal.returns-clause-ok
returns-clause-ok g c =
    let column = option_map field_of c.in_ok-column.column in
    let loaded = arc_value c.in_ok-loaded.loaded in
    ok_answers c.args.job.now _ c.in_ok-files.files.items c.in_ok-files.ensures.read c.in_ok-files.ensures.under column c.in_ok-column.ensures.ok c.in_ok-wanted.wanted c.in_ok-wanted.ensures.ok loaded c.deref.result.now
    c.in_ok-loaded.ensures.ok (subst (IsWith column loaded) (sym c.deref.ensures) c.in_ok-version.ensures.ok) c.output_of.result string_bytes c.output_of.ensures.output

pub returns-clause-err : goal.returns-clause-err
returns-clause-err g c =
    let column = option_map field_of c.in_ok-column.column in
    let loaded = arc_value c.in_ok-loaded.loaded in
    err_explains c.args.job.now _ c.in_ok-files.files.items c.in_ok-files.ensures.read c.in_ok-files.ensures.under column c.in_ok-column.ensures.ok c.in_ok-wanted.wanted c.in_ok-wanted.ensures.ok loaded c.deref.result.now
    c.in_ok-loaded.ensures.ok (subst (IsWith column loaded) (sym c.deref.ensures) c.in_ok-version.ensures.ok) _ _ c.output_of.result c.output_of.ensures.err

pub returns-clause-first : goal.returns-clause-first
returns-clause-first g c =
    let v = c.deref.result.now in
    err_first c.args.job.now _ _ _ _ c.in_ok-wanted.wanted v.fields v.history c.output_of.result c.in_ok-files.ensures.unfailed c.output_of.ensures.err
