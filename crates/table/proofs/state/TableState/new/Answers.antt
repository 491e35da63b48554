use Rattle.table.proofs.EmptyLemmas.{texts-empty}
use Rattle.table.proofs.state.TableState.new.Goals as goal

pub invariant_of-result : goal.invariant_of-result
invariant_of-result c = record {
  storage = c.in_ok-storage.ensures.storage;
  texts = texts-empty c.in_ok-storage.storage c.args.schema c.len-count.result c.in_ok-pools.pools.items c.in_ok-storage.ensures.shows c.len-count.ensures c.in_ok-pools.ensures;
}
