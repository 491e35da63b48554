use Rattle.std.proofs.Common.{◌≡◌, ◌++◌, map, take}
use Rattle.std.specs.Arc.{arc_value}
use Rattle.arrow_json.specs.Prelude.{file_of}
use Rattle.embed.specs.Loaded.{AddsAll, all_batches}
use Rattle.reports.specs.FileBatches.{batch_of, table_fields}
use Rattle.embed.proofs.loading.add_file.Given as goal

-- and the batches of this one so far
abbrev pub invariant-loop-number : goal.invariant-loop-number
invariant-loop-number l = record {
  fields : l.table.fields ≡ table_fields (map file_of l.files);
  loaded : AddsAll (all_batches (take l.place (map file_of l.files)) ++ take l.number (map batch_of (map arc_value l.batches))) (table_fields (map file_of l.files)) l.table.history;
}
