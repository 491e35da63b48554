use Rattle.std.proofs.Common.{◌≡◌, ◌∙◌, IfOk, ap, subst}
use Rattle.types.specs.Kind as kind
use Rattle.layout.specs.Prelude.{Reading, Seen}
use Rattle.types.proofs.ShapeLemmas.{kind_of-Bool}
use Rattle.arrays.proofs.FromPartsLemmas.{read_bits, read_same, show_read_bits}
use Rattle.arrays.proofs.array.Array.from_bits.Goals as goal

pub plain-requires : goal.plain-requires
plain-requires c =
    let same = read_same _ kind.boolean _ c.args.len _ _ _ kind_of-Bool c.from.ensures c.in_ok-vec.ensures.items c.new.ensures.items in
    ap (λ (r : Reading). r.fault) same ∙ read_bits c.args.len c.args.validity c.args.bits c.requires.short c.requires.bits c.requires.validity

pub returns : goal.returns
returns c =
    let same = read_same _ kind.boolean _ c.args.len _ _ _ kind_of-Bool c.from.ensures c.in_ok-vec.ensures.items c.new.ensures.items in
    subst (λ (s : Seen). IfOk c.plain.result (λ a. a ≡ s)) (ap (λ (r : Reading). r.seen) same ∙ show_read_bits c.args.len c.args.validity c.args.bits) c.plain.ensures
