use Rattle.std.proofs.Common.{[], subst, true}
use Rattle.arrays.specs.Prelude.{Kind}
use Rattle.arrays.proofs.ShapeLemmas.{kind_of-Utf8}
use Rattle.flat.specs.Lent.{IsNodeOver}
use Rattle.flat.proofs.lent.words_over.Goals as goal

pub returns : goal.returns
returns c = subst (λ (k : Kind). IsNodeOver [] true k c.args.length c.args.null_count c.args.buffers.now c.node_over.result) kind_of-Utf8 c.node_over.ensures
