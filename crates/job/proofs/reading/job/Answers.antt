use Rattle.std.proofs.Common.{◌∙◌, ◌≡◌, map, subst, true}
use Rattle.std.proofs.lemmas.Result.{IfErr-weaker, IfOk-weaker}
use Rattle.clap.specs.Words.{App, HasKind, fault_of, is_simple_and_free, kind_of, takes}
use Rattle.clap.specs.declared.error.kind.ErrorKind.TheVariants.{OutOfMemory}
use Rattle.job.proofs.WordLemmas.{found_asked, found_here, is_free_line, refused, taken_here, unfound_fault}
use Rattle.job.proofs.reading.job.Goals as goal

pub returns-in-Ok-try_get_matches_from-clause-job : goal.returns-in-Ok-try_get_matches_from-clause-job
returns-in-Ok-try_get_matches_from-clause-job c =
    let words = map (λ w. w.now) c.args.words.now in
    let found = c.in-Ok-try_get_matches_from.ensures in
    IfOk-weaker c.job_of.result _ _
    (λ job. found_asked words _ job (taken_here _ words c.in-Ok.ensures found.kinds) (found_here _ words c.in-Ok-try_get_matches_from.matches c.in-Ok.ensures found.matches)) c.job_of.ensures.found

pub returns-in-Ok-try_get_matches_from-clause-err : goal.returns-in-Ok-try_get_matches_from-clause-err
returns-in-Ok-try_get_matches_from-clause-err c =
    let words = map (λ w. w.now) c.args.words.now in
    let found = c.in-Ok-try_get_matches_from.ensures in
    IfErr-weaker c.job_of.result _ _
    (λ fault. unfound_fault words _ fault (taken_here _ words c.in-Ok.ensures found.kinds) (found_here _ words c.in-Ok-try_get_matches_from.matches c.in-Ok.ensures found.matches)) c.job_of.ensures.err

pub returns-in_default-kind-clause-err : goal.returns-in_default-kind-clause-err
returns-in_default-kind-clause-err c =
    let words = map (λ w. w.now) c.args.words.now in
    let error = c.in-Err.error in
    refused words error
    (subst (λ (a : App). takes a words ≡ true → kind_of error ≡ OutOfMemory) c.in-Ok.ensures c.in-Err.ensures.passes)
    (subst (λ (a : App). is_simple_and_free a ≡ true → HasKind (fault_of a words) error) c.in-Ok.ensures c.in-Err.ensures.kinds is_free_line)
    (λ e. c.in_default-kind.not-OutOfMemory (c.kind.ensures ∙ e))
