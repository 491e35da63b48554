use Rattle.std.proofs.Common.{◌∙◌, ◌-◌, ◌≤◌, length, take, drop, map, sym, ap, subst}
use Rattle.std.specs.Prelude.{sum_by}
use Rattle.std.specs.String.{string_bytes}
use Rattle.pool.specs.Pool.{IsPool}
use Rattle.pool.proofs.PoolLemmas.{cut_bounded, cut_within, IsPool-take, map-take}
use Rattle.pool.proofs.text_pool.TextPool.cut_back.Goals as goal
use Rattle.arrays.specs.Prelude.{most_slots}

pub byte_count-cut-requires : goal.byte_count-cut-requires
byte_count-cut-requires c =
    subst (λ ks. sum_by (λ t. length (string_bytes t)) (take (length ks - c.args.len) (drop c.args.len ks)) ≤ most_slots) (sym c.as_slice.ensures.keys)
    (cut_bounded string_bytes c.self.inside.texts.keys c.self.inside.bytes c.args.len c.self.invariant)

pub overflow_sub-self : goal.overflow_sub-self
overflow_sub-self c =
    cut_within string_bytes c.self.inside.texts.keys c.self.inside.bytes c.args.len c.byte_count-cut.result c.self.invariant
    (c.byte_count-cut.ensures ∙ ap (λ ks. sum_by (λ t. length (string_bytes t)) (take (length ks - c.args.len) (drop c.args.len ks))) c.as_slice.ensures.keys)

pub invariant_of-self : goal.invariant_of-self
invariant_of-self c =
    subst (λ ks. IsPool (map string_bytes ks) (c.self.inside.bytes - c.byte_count-cut.result)) (sym c.truncate.ensures.keys)
    (IsPool-take string_bytes c.self.inside.texts.keys c.self.inside.bytes c.args.len c.byte_count-cut.result c.self.invariant
    (c.byte_count-cut.ensures ∙ ap (λ ks. sum_by (λ t. length (string_bytes t)) (take (length ks - c.args.len) (drop c.args.len ks))) c.as_slice.ensures.keys))

pub returns : goal.returns
returns c = ap (map string_bytes) c.truncate.ensures.keys ∙ map-take string_bytes c.args.len c.self.inside.texts.keys ∙ ap (take c.args.len) c.self.view_is
