use Rattle.job.proofs.printing.print_fault.Goals as goal

pub returns-in-Line : goal.returns-in-Line
returns-in-Line g c = rw c.in-Line.is c.print_line.ensures
