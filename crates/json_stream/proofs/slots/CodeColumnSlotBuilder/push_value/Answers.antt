use Rattle.std.proofs.Common.{◌≡◌, ◌∙◌, ◌∷◌, ◌++◌, [], true, length, sym, ap, rules}
use Rattle.std.specs.Arc.{arc_value}
use Rattle.std.specs.Int.{w128}
use Rattle.std.specs.Prelude.{FitsSigned}
use Rattle.std.proofs.lemmas.Int.{to_z-of_z}
use Rattle.arrays.specs.Prelude.{int, is_code, is_of_type}
use Rattle.json_stream.proofs.CodeLemmas.{entry_with}
use Rattle.json_stream.proofs.slots.CodeColumnSlotBuilder.push_value.Goals as goal

pub returns-in-Ok-clause-ok : goal.returns-in-Ok-clause-ok
returns-in-Ok-clause-ok c =
    let read = c.in-Some.ensures.reads in
    let z = c.in-Some.index.value in
    let self = c.args.self.now in
    let entries = (arc_value self.coding.now.words).items in
    let fits : FitsSigned w128 z = search rules in
    let typed : true ≡ is_of_type self.coding.now.index z = rw to_z-of_z at c.if-not-holds.ensures in
    let named : true ≡ is_code self.entries (int z) = rw to_z-of_z at c.if-not-is_entry.ensures in
    let code : is_code (length entries) (int z) ≡ true = ap (λ n. is_code n (int z)) self.counted ∙ sym named in
    let grown : c.push_as.new.self.items ≡ self.builder.items ++ int z ∷ [] = rw to_z-of_z at c.in-Ok.ensures.ok in
    (read.0, read.2, entry_with self.coding.now.index entries read.0 z self.builder.items c.push_as.new.self.items read.1 (sym typed) code grown)
