use Rattle.std.proofs.Common.{◌∙◌, ap, map}
use Rattle.table.specs.Prelude.{group_shape, query_shape}
use Rattle.embed.specs.Answer.{of_batch}
use Rattle.embed.proofs.answering.named_table.Goals as goal

pub returns-clause-ok : goal.returns-clause-ok
returns-clause-ok c = record {
  placed = query_shape c.in_ok-placed.placed;
  found = map group_shape c.in_ok-answer.answer.groups.items;
  resolves = c.in_ok-placed.ensures.ok;
  asks = c.in_ok-answer.ensures.ok;
  is = c.in_ok-table_of.ensures ∙ ap of_batch c.in_ok-batch.ensures;
}
