use Rattle.std.proofs.Common.{◌≡◌, [], drop, length, map, Ok, string_bytes}
use Rattle.json_base.specs.Prelude.{as_str, items_view}
use Rattle.json_base.specs.declared.fault.JsonFaultKind.TheVariants.{WrongMember}
use Rattle.json_query.specs.Prelude.{key_names, wanted}
use Rattle.json_query.proofs.Readings.{each_after}
use Rattle.json_query.proofs.lists.read_names.Given as goal

-- the names so far are read
abbrev pub invariant-loop-index : goal.invariant-loop-index
invariant-loop-index l = record {
  count : length l.names.items ≡ l.index;
  read : key_names (items_view l.values) ≡ each_after (Ok (map string_bytes l.names.items)) l.index (λ d. wanted WrongMember [] (as_str d)) (items_view (drop l.index l.values));
}
