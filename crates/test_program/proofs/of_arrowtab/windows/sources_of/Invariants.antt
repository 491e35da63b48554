use Rattle.std.proofs.Common.{◌≡◌, All}
use Rattle.test_program.proofs.of_arrowtab.windows.sources_of.Given as goal

-- none of the sources so far has failed
abbrev pub invariant-loop-file : goal.invariant-loop-file
invariant-loop-file l = All (λ s. s.failures ≡ 0) l.sources.items
