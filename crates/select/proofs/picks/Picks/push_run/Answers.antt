use Rattle.std.proofs.Common.{◌≡◌, ◌∙◌, ◌+◌, ◌-◌, ◌++◌, ◌∷◌, [], Some, map, length, ap, sym, arith, length-append, append_assoc}
use Rattle.std.specs.List.{range_with_len}
use Rattle.std.proofs.lemmas.List.FromFn.{length-map-range_with_len, map-range_with_len_more}
use Rattle.select.proofs.picks.Picks.push_run.Goals as goal

pub push-requires-clause-room : goal.push-requires-clause-room
push-requires-clause-room c =
    let old = c.args.self.now in
    let run = map (λ i. Some i) (range_with_len c.args.start (c.loop-i.i - c.args.start)) in
    omega (
      arith,
      ap length c.loop-i.invariant,
      length-append old run,
      length-map-range_with_len (λ i. Some i) c.args.start (c.loop-i.i - c.args.start),
      c.if-count-len.false,
      c.len.ensures.count,
      c.len.ensures.short,
      c.loop-i-test.true,
      c.loop-i.auto.i,
    )

pub loop-i-preserved : goal.loop-i-preserved
loop-i-preserved c =
    let old = c.args.self.now in
    let start = c.args.start in
    let i = c.loop-i.i in
    let n = i - start in
    let run = map (λ i. Some i) (range_with_len start n) in
    let next : n + 1 ≡ i + 1 - start = omega (arith, c.loop-i.auto.i) in
    let last : start + n ≡ i = omega (arith, c.loop-i.auto.i) in
    c.in_ok-push.ensures.ok
    ∙ ap (λ l. l ++ Some i ∷ []) c.loop-i.invariant
    ∙ append_assoc old run (Some i ∷ [])
    ∙ ap (λ l. old ++ l) (sym (map-range_with_len_more (λ i. Some i) start n i last))
    ∙ ap (λ m. old ++ map (λ i. Some i) (range_with_len start m)) next
