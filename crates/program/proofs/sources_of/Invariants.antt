use Rattle.std.proofs.Common.{◌≡◌, All, length}
use Rattle.program.proofs.sources_of.Given as goal

-- there are as many sources as names so far, none of which has failed
abbrev pub invariant-loop-name : goal.invariant-loop-name
invariant-loop-name l = (length l.sources.items ≡ l.name-index) × All (λ s. s.failures ≡ 0) l.sources.items
