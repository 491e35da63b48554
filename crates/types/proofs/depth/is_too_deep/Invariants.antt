use Rattle.std.proofs.Common.{◌≡◌, ◌+◌}
use Rattle.types.specs.Kind.{kind_of, depth}
use Rattle.types.proofs.depth.is_too_deep.Given as goal

-- so many lists are behind
abbrev pub invariant-loop-level : goal.invariant-loop-level
invariant-loop-level l = depth (kind_of l.ty) ≡ l._level + depth (kind_of l.inner)
