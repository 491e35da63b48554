-- What is wrong with a node alone.
use Rattle.std.proofs.Common.{◌≡◌, ℕ, List, ◌∷◌, Bool, true, false, not, Some, ap, refl}
use Rattle.std.specs.Bool.{then_some}
use Rattle.std.specs.Str.{IsUtf8, is_utf8}
use Rattle.std.proofs.lemmas.Str.{IsUtf8-from_is_utf8, is_utf8-from_IsUtf8}
use Rattle.arrays.specs.Prelude.{first}
use Rattle.flat.specs.Content.{content_faults, node_fault}
use Rattle.flat.specs.declared.fault.FlatFault.TheVariants.{NameNotUtf8}
use Rattle.flat.specs.declared.node.Node.{Node}

by_name : (column : ℕ) (n : Node) (b : Bool) → is_utf8 n.name.now ≡ b → node_fault column n ≡ first (then_some (not b) (NameNotUtf8 column) ∷ content_faults column n)
by_name column n b is = ap (λ v. first (then_some (not v) (NameNotUtf8 column) ∷ content_faults column n)) is

not_text : (bytes : List ℕ) (b : Bool) → is_utf8 bytes ≡ b → (IsUtf8 bytes → ⊥) → b ≡ false
not_text bytes true is bad = absurd (bad (IsUtf8-from_is_utf8 bytes is))
not_text bytes false is bad = refl

-- a name that isn't UTF-8 comes first
pub nameless : (column : ℕ) (n : Node) → (IsUtf8 n.name.now → ⊥) → node_fault column n ≡ Some (NameNotUtf8 column)
nameless column n bad = by_name column n false (not_text n.name.now (is_utf8 n.name.now) refl bad)

-- where it is, the faults of what the node holds are left
pub named : (column : ℕ) (n : Node) → IsUtf8 n.name.now → node_fault column n ≡ first (content_faults column n)
named column n good = by_name column n true (is_utf8-from_IsUtf8 n.name.now good)
