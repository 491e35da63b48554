use Rattle.std.proofs.Common.{map}
use Rattle.std.proofs.lemmas.List.Elements.{All-map}
use Rattle.std.specs.Arc.{arc_value}
use Rattle.answers.specs.Prelude.{query_shape}
use Rattle.table.specs.Prelude.{IsStored, rows}
use Rattle.table.proofs.AnswerLemmas.{answers_table, fits_each, refuses_table, same_types}
use Rattle.table.proofs.version.Version.answer_alone.Goals as goal

pub answer_alone-requires-clause-types : goal.answer_alone-requires-clause-types
answer_alone-requires-clause-types c =
    let batches = c.batches.result.now in
    same_types c.args.self.now.fields (map arc_value batches) (All-map (IsStored c.args.self.now.fields) arc_value batches c.batches.ensures.lawful)

pub answer_alone-requires-clause-fits : goal.answer_alone-requires-clause-fits
answer_alone-requires-clause-fits c =
    let batches = c.batches.result.now in
    fits_each c.args.self.now.fields (query_shape c.args.query.now) (map arc_value batches) c.requires.fits (All-map (IsStored c.args.self.now.fields) arc_value batches c.batches.ensures.lawful)

pub returns-clause-ok : goal.returns-clause-ok
returns-clause-ok c =
    let batches = c.batches.result.now in
    let stored = All-map (IsStored c.args.self.now.fields) arc_value batches c.batches.ensures.lawful in
    answers_table c.args.self.now.fields (query_shape c.args.query.now) (map arc_value batches) (rows c.args.self.now.history) stored c.batches.ensures.rows c.answer_alone.result c.answer_alone.ensures.ok

pub returns-clause-err : goal.returns-clause-err
returns-clause-err c =
    let batches = c.batches.result.now in
    let stored = All-map (IsStored c.args.self.now.fields) arc_value batches c.batches.ensures.lawful in
    refuses_table c.args.self.now.fields (query_shape c.args.query.now) (map arc_value batches) (rows c.args.self.now.history) stored c.batches.ensures.rows c.answer_alone.result c.answer_alone.ensures.err
