use Rattle.std.proofs.Common.{◌≡◌, map, take}
use Rattle.arrow_json.specs.Prelude.{file_of}
use Rattle.embed.specs.Loaded.{AddsAll, all_batches}
use Rattle.reports.specs.FileBatches.{table_fields}
use Rattle.embed.proofs.loading.load_files.Given as goal

-- the files so far are loaded
abbrev pub invariant-loop-place : goal.invariant-loop-place
invariant-loop-place l = record {
  fields : l.table.fields ≡ table_fields (map file_of l.files);
  loaded : AddsAll (all_batches (take l.place (map file_of l.files))) (table_fields (map file_of l.files)) l.table.history;
}
