use Rattle.std.proofs.Common.{◌≡◌, ◌∙◌, IfOk, ap, subst}
use Rattle.types.specs.Kind as kind
use Rattle.layout.specs.Prelude.{Reading, Seen}
use Rattle.types.proofs.ShapeLemmas.{kind_of-Int}
use Rattle.arrays.proofs.FromPartsLemmas.{read_numbers, read_same, show_read_numbers}
use Rattle.arrays.proofs.array.Array.from_numbers.Goals as goal

pub plain-requires : goal.plain-requires
plain-requires c =
    let same = read_same _ (kind.int c.args.ty) _ c.args.len _ _ _ (kind_of-Int c.args.ty) c.from.ensures c.in_ok-vec.ensures.items c.new.ensures.items in
    ap (λ (r : Reading). r.fault) same ∙ read_numbers c.args.ty c.args.len c.args.validity c.args.values c.requires.short c.requires.numbers c.requires.bits

pub returns : goal.returns
returns c =
    let same = read_same _ (kind.int c.args.ty) _ c.args.len _ _ _ (kind_of-Int c.args.ty) c.from.ensures c.in_ok-vec.ensures.items c.new.ensures.items in
    subst (λ (s : Seen). IfOk c.plain.result (λ a. a ≡ s)) (ap (λ (r : Reading). r.seen) same ∙ show_read_numbers c.args.ty c.args.len c.args.validity c.args.values) c.plain.ensures
