use Rattle.std.proofs.Common.{◌≡◌, ◌++◌, take, string_bytes}
use Rattle.json_base.specs.JsonPath.{pointer}
use Rattle.json_base.proofs.path.push_pointer.Given as goal

-- the steps so far are written
abbrev pub invariant-loop-step : goal.invariant-loop-step
invariant-loop-step l =
    string_bytes l.text ≡ string_bytes l.initial.text ++ pointer (take l.step-index l.steps)
