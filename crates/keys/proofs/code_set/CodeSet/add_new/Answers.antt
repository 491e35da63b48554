use Rattle.std.proofs.Common.{◌≡◌, ◌∙◌, ◌++◌, ◌∷◌, [], ap, arith, false, length, subst, sym}
use Rattle.std.specs.List.{list_any}
use Rattle.std.specs.Prelude.{nat_eq, slice_get, unwrap_or}
use Rattle.keys.specs.CodeSets.{ArePlaced, place_end}
use Rattle.keys.proofs.TextLemmas.{get_last}
use Rattle.keys.proofs.CodeSetLemmas.{reported_alike, reported_more}
use Rattle.keys.proofs.code_set.CodeSet.add_new.Goals as goal

pub invariant_of-self-in_err-put_end : goal.invariant_of-self-in_err-put_end
invariant_of-self-in_err-put_end c =
    let inside = c.self.inside in
    let new = place_end c.put_end.new.numbers.items c.put_end.new.others.items in
    subst (λ l. ArePlaced l new) (sym c.reserve.ensures.items)
    (reported_alike inside.codes.items (place_end inside.numbers.items inside.others.items) new c.self.invariant c.in_err-put_end.ensures.err)

pub invariant_of-self-2 : goal.invariant_of-self-2
invariant_of-self-2 c =
    let x = c.args.code in
    let inside = c.self.inside in
    let codes = inside.codes.items in
    let new = place_end c.put_end.new.numbers.items c.put_end.new.others.items in
    let pushed = c.push_reserved.ensures.items ∙ ap (λ l. l ++ x ∷ []) c.reserve.ensures.items in
    let absent = subst (λ l. list_any (nat_eq x) l ≡ false) (sym c.self.view_is) c.requires in
    subst (λ l. ArePlaced l new) (sym pushed)
    (reported_more codes x c.in-Ok.end (place_end inside.numbers.items inside.others.items) new c.self.invariant absent
    (omega (arith, c.in-Ok.ensures, c.len-place.ensures)) c.in_ok-put_end.ensures.put)

pub returns-clause-codes : goal.returns-clause-codes
returns-clause-codes c n is =
    let x = c.args.code in
    c.push_reserved.ensures.items ∙ ap (λ l. l ++ x ∷ []) (c.reserve.ensures.items ∙ c.self.view_is)

pub returns-clause-place : goal.returns-clause-place
returns-clause-place c n is =
    let x = c.args.code in
    let codes = c.self.inside.codes.items in
    let pushed = c.push_reserved.ensures.items ∙ ap (λ l. l ++ x ∷ []) c.reserve.ensures.items in
    let last : n ≡ length codes = omega (arith, ap (λ o. unwrap_or o 0) is, c.len-place.ensures) in
    ap (slice_get c.push_reserved.new.self.items) last ∙ ap (λ l. slice_get l (length codes)) pushed ∙ get_last codes x
