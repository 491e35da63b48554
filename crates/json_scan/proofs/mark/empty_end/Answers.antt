use Rattle.json_scan.proofs.mark.empty_end.Goals as goal

pub returns-in-End-clause-reads : goal.returns-in-End-clause-reads
returns-in-End-clause-reads c = rw c.in-End.is at c.in_ok-mark.ensures.reads
