use Rattle.std.proofs.Common.{replicate, subst}
use Rattle.arrays.specs.Prelude.{Kind, null}
use Rattle.answers.specs.Prelude.{AreStats}
use Rattle.table.proofs.widening.wider_stats.Goals as goal

pub returns : goal.returns
returns c = record {
  front = c.in_ok-wider.wider.items;
  added = c.all_null.result;
  whole = c.in_ok-push.ensures.items;
  same = c.in_ok-wider.ensures;
  nulls = subst (λ (k : Kind). AreStats c.all_null.result k (replicate c.args.rows null)) c.of.ensures c.all_null.ensures;
}
