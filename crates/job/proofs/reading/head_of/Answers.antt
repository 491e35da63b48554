use Rattle.std.proofs.Common.{◌∙◌, ◌≡◌, ◌≢◌, arith, codes, sym}
use Rattle.std.specs.Prelude.{None, Some}
use Rattle.clap.specs.Words.{found_of, one_text, rows_of}
use Rattle.clap.proofs.WalkLemmas.{one_text-rows}
use Rattle.job.proofs.WordLemmas.{no_head, number_there}
use Rattle.job.proofs.reading.head_of.Goals as goal

pub returns-in_default-clause-err : goal.returns-in_default-clause-err
returns-in_default-clause-err c =
    let f = found_of c.args.found.now in
    no_head (rows_of f) (λ count has few.
    let failed = c.in_default.ensures.value has.0 (one_text-rows f (codes "ROWS") ∙ has.1) in
    failed.1.0 (has.2.0, omega (arith, few, has.2.1)))

pub returns-clause-own : goal.returns-clause-own
returns-clause-own c =
    let f = found_of c.args.found.now in
    let there : one_text f (codes "ROWS") ≢ None = λ e. let h : Some c.in-Some.rows ≡ None = c.in-Some.ensures.none e in cc in
    let read = number_there (one_text f (codes "ROWS")) c.in-Some.rows there (λ t e. let parsed = c.in-Some.ensures.value t e in let gives = parsed.0 in (gives.0.0, sym gives.1)) in
    let parsed = c.in-Some.ensures.value read.0 read.1 in
    let gives = parsed.0 in
    ((read.0, sym (one_text-rows f (codes "ROWS")) ∙ read.1, read.2), omega (arith, gives.0.1, gives.1))
