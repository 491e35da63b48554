use Rattle.std.proofs.Common.{rules, ◌≡◌, ◌+◌, ◌*◌, ◌<◌, ◌++◌, ◌∙◌, ℕ, List, length, ap, sym, subst, arith, length-append}
use Rattle.colbits.specs.Bit.{bit}
use Rattle.colbits.proofs.WordLemmas.{places-more}
use Rattle.colbits.proofs.bitmap.BitmapBuf.from_places.Goals as goal

pub loop-b-preserved : goal.loop-b-preserved
loop-b-preserved g c =
    let f = g.P.Places.at c.args.places.now in
    let b = c.loop-b.b in
    let bytes = c.loop-b.bytes.items in
    let lanes = c.lanes.result in
    let size : length lanes ≡ 32 = search rules in
    let is : c.extend_from_slice.new.self.items ≡ bytes ++ lanes = c.in_ok-extend_from_slice.ensures.items in (
      omega (arith, ap length is, length-append bytes lanes, size),
      subst (λ (bs : List ℕ). (i : ℕ) → i < 256 * (b + 1) → bit bs i ≡ f i) (sym is)
          (λ i h. places-more f bytes lanes (32 * b) 256 c.loop-b.invariant.0 (λ k low. c.loop-b.invariant.1 k (omega arith)) (λ j low. c.lanes.ensures j low ∙ ap f (omega arith)) i (omega arith)),
    )
