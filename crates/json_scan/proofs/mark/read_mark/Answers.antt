use Rattle.std.proofs.Common.{refl, arith}
use Rattle.json_scan.proofs.Lexemes.{mark_after}
use Rattle.json_scan.proofs.mark.read_mark.Goals as goal

pub returns-then-byte-eq44-clause-reads : goal.returns-then-byte-eq44-clause-reads
returns-then-byte-eq44-clause-reads c = mark_after c.args.text.now c.args.at c.after_space-end.result 44 c.after_space-end.ensures.same (omega arith) (omega arith) refl
