use Rattle.std.proofs.Common.{◌≡◌, ◌∙◌, true, false, nat_eq, rules, sym}
use Rattle.std.specs.Cmp.Lexicographic.{pointwise, slice_cmp, texts_ties}
use Rattle.std.specs.Ordering.{nat_cmp}
use Rattle.kernels.proofs.ComparisonLemmas.{wants-equal, wants-unequal}
use Rattle.kernels.proofs.comparison.wanted.Wanted.bytes.Goals as goal

pub returns-then-eq : goal.returns-then-eq
returns-then-eq c =
    let x = c.args.x.now in
    let y = c.args.y.now in
    let same : pointwise nat_eq x y ≡ true = search rules in
    wants-equal c.args.self (slice_cmp nat_cmp x y) (sym (texts_ties x y) ∙ same)

pub returns-else-eq : goal.returns-else-eq
returns-else-eq c =
    let x = c.args.x.now in
    let y = c.args.y.now in
    let alike : c.args.self.less ≡ c.args.self.greater = search rules in
    let other : pointwise nat_eq x y ≡ false = search rules in
    wants-unequal c.args.self (slice_cmp nat_cmp x y) alike (sym (texts_ties x y) ∙ other)
