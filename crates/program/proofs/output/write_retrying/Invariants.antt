use Rattle.std.specs.Io.KnownBytes.{Keeps}
use Rattle.program.proofs.output.write_retrying.Given as goal

-- no attempt that was interrupted moved a byte
abbrev pub invariant-loop-try : goal.invariant-loop-try
invariant-loop-try g l = Keeps (g.W.Write.contents l.fn.output) (g.W.Write.contents l.output)
