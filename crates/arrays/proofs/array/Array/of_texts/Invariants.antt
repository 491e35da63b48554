use Rattle.std.proofs.Common.{◌≡◌, map, take}
use Rattle.std.specs.Option.{option_copied}
use Rattle.types.specs.declared.offset_width.OffsetWidth.TheVariants.{Narrow}
use Rattle.arrays.specs.Slot.{item_of_text}
use Rattle.arrays.proofs.array.Array.of_texts.Given as goal

abbrev pub invariant-loop-text : goal.invariant-loop-text
invariant-loop-text l = record {
  width : l.builder.width ≡ Narrow;
  items : l.builder.items ≡ map (λ t. item_of_text (option_copied t)) (take l.text-index l.texts);
}
