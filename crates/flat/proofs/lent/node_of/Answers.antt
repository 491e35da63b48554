use Rattle.flat.proofs.LentLemmas.{node_of_field}
use Rattle.flat.proofs.lent.node_of.Goals as goal

pub returns : goal.returns
returns c = node_of_field c.args.field.now c.deref.result.now c.args.length c.args.null_count c.args.buffers.now c.node_over.result c.deref.ensures c.node_over.ensures
