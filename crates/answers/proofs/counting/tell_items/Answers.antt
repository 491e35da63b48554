use Rattle.answers.proofs.KindLemmas.{seen_by}
use Rattle.answers.proofs.counting.tell_items.Goals as goal

pub returns-in-Least : goal.returns-in-Least
returns-in-Least c =
    seen_by c.args.batch.now c.args.agg c.in-Least.place c.column_at.result c.in-Least.is c.requires c.column_at.ensures.items c.column_at.ensures.kind c.tell_items.ensures.typed
