use Rattle.std.proofs.Common.{◌≡◌, ◌++◌}
use Rattle.arrays.specs.Values.{text_items}
use Rattle.arrays.proofs.builder.texts.TextBuilder.extended_by_slots.Given as goal

abbrev pub invariant-loop-i : goal.invariant-loop-i
invariant-loop-i l = record {
  width : l.all.width ≡ l.fn.self.width;
  items : l.all.items ≡ l.fn.self.items ++ text_items l.texts.offsets l.texts.bytes.now l.texts.validity l.i;
}
