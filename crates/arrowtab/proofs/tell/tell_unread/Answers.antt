use Rattle.std.proofs.Common.{refl, string_bytes, subst}
use Rattle.ends.specs.Line.{TookLine}
use Rattle.arrowtab.specs.TookFault.{built}
use Rattle.arrowtab.proofs.tell.tell_unread.Goals as goal

pub returns-in-Ok : goal.returns-in-Ok
returns-in-Ok g c =
    built (string_bytes c.in-Ok.line) (c.args.name.now, refl, c.in-Ok.ensures)
    (subst (λ t. TookLine t (g.E.Sink.failures c.args.err.now) (g.E.Sink.failures c.write_line.new.err) (g.E.Sink.taken c.args.err.now) (g.E.Sink.taken c.write_line.new.err)) c.as_bytes.ensures.value c.write_line.ensures)
