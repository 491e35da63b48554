use Rattle.std.proofs.Common.{◌≡◌, take}
use Rattle.keys.specs.Keys.{AreIds, with_keys}
use Rattle.keys.proofs.others.intern_keys.Given as goal

-- The keys so far have their ids.
abbrev pub invariant-loop-place : goal.invariant-loop-place
invariant-loop-place l = (l.keys ≡ with_keys l.initial.keys (take l.place l.others)) × AreIds l.keys (take l.place l.others) l.ids.items
