use Rattle.table.specs.Prelude.{batches_of, rows_of_batches}
use Rattle.table.proofs.JoinedLemmas.{after-commit, compacted-table, texts-begin}
use Rattle.table.proofs.PutLemmas.{Storage-same}
use Rattle.table.proofs.state.TableState.join.Goals as goal

pub commit-requires-clause-begun : goal.commit-requires-clause-begun
commit-requires-clause-begun g c =
    texts-begin c.self.inside.storage (rows_of_batches (batches_of c.self.inside.storage)) c.self.inside.pools.items c.self.invariant.texts

pub commit-requires-clause-lawful : goal.commit-requires-clause-lawful
commit-requires-clause-lawful g c = λ h next. Storage-same c.in_ok-next.next h next c.in_ok-next.ensures.lawful

pub invariant_of-self : goal.invariant_of-self
invariant_of-self g c =
    let both =
    after-commit c.commit.result c.self.inside.storage c.in_ok-next.next c.commit.new.storage c.self.inside.pools c.commit.new.pools c.self.invariant.storage c.self.invariant.texts
    c.in_ok-next.ensures.lawful
    (c.in_ok-next.ensures.compacted.fields, compacted-table c.self.inside.storage c.in_ok-next.next c.args.max_rows c.in_ok-next.ensures.compacted)
    c.commit.ensures.next c.commit.ensures.pools c.commit.ensures.kept c.commit.ensures.back in record {
      storage = both.0;
      texts = both.1;
    }
