use Rattle.std.specs.Io.KnownBytes.{Keeps}
use Rattle.program.proofs.file.read_retrying.Given as goal

-- no attempt that was interrupted moved a byte
abbrev pub invariant-loop-try : goal.invariant-loop-try
invariant-loop-try g l = Keeps (g.F.Read.remaining l.fn.file) (g.F.Read.remaining l.file)
