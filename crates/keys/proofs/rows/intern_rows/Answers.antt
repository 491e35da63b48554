use Rattle.std.proofs.Common.{subst, sym}
use Rattle.keys.specs.Prelude.{Remembers, keys_at}
use Rattle.std.proofs.lemmas.Result.{on_ok_weaker}
use Rattle.keys.proofs.KeyLemmas.{Keys}
use Rattle.keys.proofs.MemoLemmas.{entries_there, remembers-more}
use Rattle.keys.proofs.rows.intern_rows.Goals as goal

pub intern_codes-requires-clause-knows : goal.intern_codes-requires-clause-knows
intern_codes-requires-clause-knows c =
    let view = c.column_at-view.result in
    entries_there c.args.keys.now c.args.columns.now.batch.now c.args.columns.now.by.now view c.args.memo.now c.requires.knows c.if-columns-eq1.true c.column_at-view.ensures.column (sym c.in-Dict.ensures)

pub returns-then-is_empty-clause-remembers : goal.returns-then-is_empty-clause-remembers
returns-then-is_empty-clause-remembers c =
    on_ok_weaker c.intern_alike.result
    (λ e. subst (λ (l : Keys). Remembers l c.args.memo.now) (sym e)
    (remembers-more c.args.keys.now (keys_at c.args.columns.now.by.now c.args.columns.now.batch.now.columns c.args.rows.now) c.args.memo.now c.requires.remembers))
    c.intern_alike.ensures.keys

pub returns-clause-remembers : goal.returns-clause-remembers
returns-clause-remembers c =
    on_ok_weaker c.intern_each.result
    (λ e. subst (λ (l : Keys). Remembers l c.args.memo.now) (sym e)
    (remembers-more c.args.keys.now (keys_at c.args.columns.now.by.now c.args.columns.now.batch.now.columns c.args.rows.now) c.args.memo.now c.requires.remembers))
    c.intern_each.ensures.keys
