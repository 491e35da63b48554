use Rattle.std.proofs.Common.{map, take}
use Rattle.std.specs.Prelude.{All}
use Rattle.std.specs.List.{AllZip}
use Rattle.arrow_json.specs.Prelude.{AreUnder, Reads, file_of}
use Rattle.embed.proofs.reading.read_files.Given as goal

-- the files of the texts so far
abbrev pub invariant-loop-place : goal.invariant-loop-place
invariant-loop-place l = record {
  read : AllZip Reads (take l.place (map (λ t. t.now) l.texts)) (map file_of l.files.items);
  under : All (λ f. AreUnder f.fields f.batches) l.files.items;
}
