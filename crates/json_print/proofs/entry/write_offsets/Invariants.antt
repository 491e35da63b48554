use Rattle.std.proofs.Common.{◌≡◌, ◌++◌, drop, map}
use Rattle.std.specs.String.{string_bytes}
use Rattle.arrays.specs.Prelude.{Narrow}
use Rattle.json.specs.Tree.{items_tokens}
use Rattle.json_base.specs.Prelude.{items_outline}
use Rattle.json_print.specs.Prelude.{offsets, offsets_data, text_items, tokens_of}
use Rattle.json_print.proofs.entry.write_offsets.Given as goal

-- with the texts that are left all is written
abbrev pub invariant-loop-text : goal.invariant-loop-text
invariant-loop-text l =
    l.out ++ items_tokens (items_outline (offsets_data Narrow l.end (text_items (map string_bytes (drop l.text-index l.texts))))) ≡ l.fn.out ++ tokens_of (offsets Narrow (text_items (map string_bytes l.texts)))
