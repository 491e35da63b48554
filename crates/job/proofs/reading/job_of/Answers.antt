use Rattle.std.proofs.Common.{refl, rules}
use Rattle.clap.specs.Words.{found_of, rows_of, subcommand_rows_of}
use Rattle.job.specs.Jobs.{Finds}
use Rattle.job.specs.declared.jobs.Job.{Job}
use Rattle.job.proofs.WordLemmas.{none_numbered}
use Rattle.job.proofs.reading.job_of.Goals as goal

pub returns-in_default-workers_of-clause-err : goal.returns-in_default-workers_of-clause-err
returns-in_default-workers_of-clause-err c =
    none_numbered (subcommand_rows_of c.args.matches.now) (rows_of (found_of c.in-Some.found.now)) c.in-Some.ensures.rows (c.in_default-workers_of.ensures.none refl)

pub returns-clause-found : goal.returns-clause-found
returns-clause-found c = record {
  rows = rows_of (found_of c.in-Some.found.now);
  command = search rules;
  own = c.in_ok-command.ensures.own;
  names = search rules;
  workers = c.in-Some-workers_of.ensures.value;
  column = c.in-Ok-column_of.ensures;
}

pub returns-then-reads_input_twice-clause-err : goal.returns-then-reads_input_twice-clause-err
returns-then-reads_input_twice-clause-err c =
    let job : Job = record { command = c.in_ok-command.command; names = c.in-Ok.names; workers = c.in-Some-workers_of.workers; column = c.in-Ok-column_of.column } in
    let finds : Finds (subcommand_rows_of c.args.matches.now) job = record {
      rows = rows_of (found_of c.in-Some.found.now);
      command = search rules;
      own = c.in_ok-command.ensures.own;
      names = search rules;
      workers = c.in-Some-workers_of.ensures.value;
      column = c.in-Ok-column_of.ensures;
    } in
    (job, finds, c.reads_input_twice.ensures.0 c.if-reads_input_twice.true)
