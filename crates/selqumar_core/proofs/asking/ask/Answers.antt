use Rattle.shared.specs.Prelude.{query_shape, rows}
use Rattle.selqumar_core.proofs.AskedLemmas.{refused_at_row}
use Rattle.selqumar_core.proofs.asking.ask.Goals as goal

pub returns-in-Ok : goal.returns-in-Ok
returns-in-Ok g c = record {
  ok = tt;
  err =
      refused_at_row c.args.text.now c.args.version.now.fields (rows c.args.version.now.history) (query_shape c.in-Ok.query) c.in-Err-answer.fault c.in-Ok.ensures.ok
      c.in-Err-answer.ensures.err c.in_default.not-NoMemory;
}
