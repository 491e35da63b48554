use Rattle.std.proofs.Common.{inl, inr, refl, subst, sym}
use Rattle.job.specs.Printed.{IsInquiry, help, mistake}
use Rattle.job.proofs.printing.print_line.Goals as goal

pub returns-in-DisplayHelp : goal.returns-in-DisplayHelp
returns-in-DisplayHelp g c = help (subst IsInquiry c.kind.ensures c.in-DisplayHelp.is) _ c.print_help.ensures

pub returns : goal.returns
returns g c = mistake (λ asked. elim (subst IsInquiry (sym c.kind.ensures) asked) [
  | inl is ↦ c.in_default-kind.not-DisplayHelp is
  | inr is ↦ c.in_default-kind.not-DisplayVersion is
]) _ (refl, refl, c.write_line.ensures)
