use Rattle.std.proofs.Common.{◌≡◌, ◌++◌, drop, map}
use Rattle.std.specs.String.{string_bytes}
use Rattle.json.specs.Tree.{items_tokens}
use Rattle.json_base.specs.Prelude.{array, items_outline}
use Rattle.json_print.specs.Prelude.{each, text_items, tokens_of, valid_data}
use Rattle.json_print.proofs.entry.write_flags.Given as goal

-- with the texts that are left all is written
abbrev pub invariant-loop-text : goal.invariant-loop-text
invariant-loop-text l =
    l.out ++ items_tokens (items_outline (each valid_data (text_items (map string_bytes (drop l._text-index l.texts))))) ≡ l.fn.out ++ tokens_of (array (each valid_data (text_items (map string_bytes l.texts))))
