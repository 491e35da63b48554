use Rattle.std.proofs.Common.{◌≡◌, ◌+◌, ℕ, Err, Global, Vec, arith, subst, sym}
use Rattle.ends.specs.Source.{CountsReads}
use Rattle.ends.specs.declared.source.SourceFault.{SourceFault}
use Rattle.arrowtab.proofs.QueryFileLemmas.{has_read, unread_source}
use Rattle.arrowtab.proofs.query_file.read_query_file.Goals as goal

pub returns-in-Ok-clause-read : goal.returns-in-Ok-clause-read
returns-in-Ok-clause-read g c =
    has_read c.args.job c.with_query.result (g.S.Source.remaining c.args.source.now) c.in-Some.name.now c.in-Ok.text (sym c.in-Some.ensures) c.in-Ok.ensures.whole c.with_query.ensures

pub returns-in-Err-ReadFailed-clause-unread : goal.returns-in-Err-ReadFailed-clause-unread
returns-in-Err-ReadFailed-clause-unread g c =
    let old = g.S.Source.failures c.args.source.now in
    let new = g.S.Source.failures c.read_whole.new.source in
    let counted : new ≡ old + 1 = subst (λ (f : SourceFault). CountsReads {A = Vec ℕ Global} old new (Err f)) c.in-Err-ReadFailed.field-0-is c.in-Err-ReadFailed.ensures.count in
    unread_source c.args.job _ _ _ _ _ _ c.in-Some.name.now (sym c.in-Some.ensures) (omega (arith, counted)) c.tell_unread.ensures
