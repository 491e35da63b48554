use Rattle.std.proofs.Common.{◌≡◌, ◌∙◌, ◌+◌, ◌-◌, ◌++◌, ◌∷◌, [], None, ap, append_assoc, arith, length, length-append, replicate}
use Rattle.std.proofs.lemmas.List.{replicate_more}
use Rattle.tallies.proofs.items.push_empty.Goals as goal

pub loop-items-preserved : goal.loop-items-preserved
loop-items-preserved c =
    let first = c.args.items.now.items in
    let old = c.loop-items.items.items in
    let new = c.push.new.self.items in
    let v = c.loop-items.invariant in
    let k = length old - length first in
    let longer : length new ≡ length old + 1 = ap length c.in_ok-push.ensures.items ∙ length-append old (None ∷ []) in
    let more : k + 1 ≡ length new - length first = omega (arith, longer, v.2) in (
      c.in_ok-push.ensures.items ∙ ap (λ l. l ++ None ∷ []) v.0 ∙ append_assoc first (replicate k None) (None ∷ [])
          ∙ ap (λ l. first ++ l) (replicate_more k None ∙ ap (λ m. replicate m None) more),
      omega (arith, longer, c.loop-items-test.true, c.len.ensures, c.loop-items.items.ok.0),
      omega (arith, longer, v.2),
    )
