use Rattle.std.proofs.Common.{map, option_map}
use Rattle.json_base.specs.Prelude.{ReadsFirst, items_view}
use Rattle.arrays.specs.Prelude.{fields_of}
use Rattle.json_read.specs.Prelude.{HasEncoding, ReadsField, parts_of}
use Rattle.json_read.proofs.schema.read_fields.Given as goal

-- the fields so far are read, and their encodings
abbrev pub invariant-loop-index : goal.invariant-loop-index
invariant-loop-index l = record {
  fields : ReadsFirst ReadsField (items_view l.values) l.index-counter (fields_of l.fields.items);
  encodings : ReadsFirst HasEncoding (items_view l.values) l.index-counter (map (option_map parts_of) l.encodings.items);
}
