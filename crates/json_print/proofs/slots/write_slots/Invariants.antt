use Rattle.std.proofs.Common.{◌≡◌, ◌++◌, drop}
use Rattle.std.specs.List.{flat_map}
use Rattle.json_print.specs.Prelude.{part_data, tokens_of}
use Rattle.json_print.proofs.slots.write_slots.Given as goal

-- with the slots that are left all is written
abbrev pub invariant-loop-i : goal.invariant-loop-i
invariant-loop-i l = l.out ++ flat_map (λ x. tokens_of (part_data l.part x)) (drop l.i l.view.items) ≡ l.fn.out ++ flat_map (λ x. tokens_of (part_data l.part x)) l.view.items
