use Rattle.std.proofs.Common.{◌∙◌, ◌≡◌, ◌≢◌, arith, codes, inl, inr, sym}
use Rattle.std.specs.Prelude.{None, Some}
use Rattle.clap.specs.Words.{found_of, one_text}
use Rattle.clap.proofs.WalkLemmas.{one_text-rows}
use Rattle.job.proofs.WordLemmas.{number_there}
use Rattle.job.proofs.reading.workers_of.Goals as goal

pub returns-clause-value : goal.returns-clause-value
returns-clause-value c =
    let f = found_of c.args.found.now in
    let there : one_text f (codes "N") ≢ None = λ e. let h : Some c.in_ok-workers.workers ≡ None = c.in_ok-workers.ensures.none e in cc in
    let read = number_there (one_text f (codes "N")) c.in_ok-workers.workers there (λ t e. let parsed = c.in_ok-workers.ensures.value t e in let gives = parsed.0 in (gives.0.0, sym gives.1)) in
    (read.0, sym (one_text-rows f (codes "N")) ∙ read.1, read.2)

pub returns-in_err-workers-clause-none : goal.returns-in_err-workers-clause-none
returns-in_err-workers-clause-none c = λ _. λ workers has some few.
    let f = found_of c.args.found.now in
    let failed = c.in_err-workers.ensures.value has.0 (one_text-rows f (codes "N") ∙ has.1) in
    absurd (failed.1.0 (has.2.0, omega (arith, few, has.2.1)))

pub returns-then-workers-lt1-clause-none : goal.returns-then-workers-lt1-clause-none
returns-then-workers-lt1-clause-none c = λ _. λ workers has some few.
    let f = found_of c.args.found.now in
    let read = c.in_ok-workers.ensures.value has.0 (one_text-rows f (codes "N") ∙ has.1) in
    let gives = read.0 in
    let is : c.in_ok-workers.workers ≡ workers = gives.1 ∙ has.2.1 in
    elim c.then-workers-lt1.either [
      | inl below ↦ absurd (omega (arith, below, some, is))
      | inr above ↦ absurd (omega (arith, above.1, few, is))
    ]
