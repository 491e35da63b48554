use Rattle.std.proofs.Common.{◌≡◌, Some, None, arith, rules}
use Rattle.json_base.specs.Prelude.{as_null, member_of, view}
use Rattle.json_base.specs.declared.path.Member.TheVariants as member
use Rattle.json_query.specs.QueryDocument.{filter}
use Rattle.json_query.proofs.Readings.{chain_first, under_told}
use Rattle.json_query.proofs.query_text.read_filter.Goals as goal

pub returns-in-Err-clause-err : goal.returns-in-Err-clause-err
unfolding filter
returns-in-Err-clause-err c =
    let at : member_of member.Filter (view c.args.object.now) ≡ Some (view c.in-Some.found.now) = search rules in
    let some : as_null (view c.in-Some.found.now) ≡ None = search rules in
    under_told _ _ _ _ (rw (at, some) (chain_first _ _ _ (c.in-Err.ensures.err _ (omega arith)))) c.under.ensures
