use Rattle.std.proofs.lemmas.Result.{err_from_is_err_and}
use Rattle.std.proofs.Common.{inr, refl, ◌≡◌, ◌∙◌, ◌+◌, ◌-◌, ◌<◌, ◌≤◌, ◌++◌, ◌∷◌, [], ℕ, List, length, map, false, sym, ap, subst, arith}
use Rattle.std.specs.String.{string_bytes}
use Rattle.pool.specs.Prelude.{IsPool, is_among, is_too_full}
use Rattle.pool.proofs.PoolLemmas.{IsPool-push, inserted}
use Rattle.pool.proofs.text_pool.TextPool.add_new.Goals as goal
use Rattle.arrays.specs.Prelude.{most_slots}

pub invariant_of-self-2 : goal.invariant_of-self-2
invariant_of-self-2 c =
    let t = c.args.text.now in
    let keys = c.self.inside.texts.keys in
    let bytes = c.self.inside.bytes in
    let apart : is_among (map string_bytes keys) t ≡ false = ap (λ ts. is_among ts t) c.self.view_is ∙ c.requires in
    let new = inserted keys c.insert.new.self.keys c.in_ok-copy.copy t c.in_ok-insert.ensures.keys c.in_ok-copy.ensures.ok apart in
    let small : c.len-code.result < most_slots = c.if-code-ge-MOST_SLOTS.false in
    let few : length (map string_bytes keys) < most_slots = omega (arith, small, c.len-code.ensures.count, ap (λ (l : List (List ℕ)). length l) c.self.view_is) in
    let short : length t ≤ most_slots - bytes = c.if-text-self.false in
    subst (λ ts. IsPool ts (bytes + length t)) (sym new) (IsPool-push (map string_bytes keys) bytes t c.self.invariant apart few short)

pub returns-clause-texts : goal.returns-clause-texts
returns-clause-texts c =
    let t = c.args.text.now in
    let keys = c.self.inside.texts.keys in
    let apart : is_among (map string_bytes keys) t ≡ false = ap (λ ts. is_among ts t) c.self.view_is ∙ c.requires in
    inserted keys c.insert.new.self.keys c.in_ok-copy.copy t c.in_ok-insert.ensures.keys c.in_ok-copy.ensures.ok apart
    ∙ ap (λ ts. ts ++ t ∷ []) c.self.view_is

abbrev Fits : List (List ℕ) → List ℕ → Type 0
Fits ts t = is_too_full (ts ++ t ∷ []) ≡ false

-- there is room for the text
fits_still : (shown ts : List (List ℕ)) (bytes : ℕ) (t : List ℕ) → ts ≡ shown → IsPool ts bytes → is_among shown t ≡ false → length shown < most_slots → length t ≤ most_slots - bytes → Fits shown t
fits_still shown ts bytes t is pool apart few short =
    (IsPool-push shown bytes t (subst (λ l. IsPool l bytes) is pool) apart few short).fits

pub returns-in_err-copy-clause-fault : goal.returns-in_err-copy-clause-fault
returns-in_err-copy-clause-fault c =
    let few : length c.args.self.now < most_slots = omega (arith, c.if-code-ge-MOST_SLOTS.false, c.len-code.ensures.count) in
    let p = err_from_is_err_and c.from_residual.result c.from_residual.ensures.1 in
    rw (p.1, p.2) (inr (refl, fits_still c.args.self.now _ c.self.inside.bytes c.args.text.now c.self.view_is c.self.invariant c.requires few c.if-text-self.false))
