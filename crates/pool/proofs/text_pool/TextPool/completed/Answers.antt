use Rattle.std.proofs.Common.{◌∙◌, ◌∷◌, ◌++◌, [], ◌<◌, ap, length, sym, arith, true≢false, inl, inr}
use Rattle.std.specs.Option.{option_copied}
use Rattle.arrays.specs.Prelude.{is_full, item_of_text, text_bytes}
use Rattle.pool.proofs.UnifyLemmas.{text_added, text_fits}
use Rattle.pool.proofs.text_pool.TextPool.completed.Goals as goal

pub unreachable-requires : goal.unreachable-requires
unreachable-requires c =
    let below : c.loop-code.code < length c.args.self.now = omega (arith, c.loop-code-test.true, c.len-code-end.ensures.count) in
    let texts = c.loop-code.texts in
    let o = option_copied c.text_of.result in
    let fits = ap (λ w. is_full w (text_bytes (texts.items ++ item_of_text o ∷ []))) c.loop-code.invariant.width
    ∙ text_fits c.args.self.now c.loop-code.code o texts.items below c.text_of.ensures c.loop-code.invariant.items c.len-code-end.ensures.fits in
    elim c.in-Err-OffsetsFull.ensures.fault [ inl h ↦ true≢false (sym h.1 ∙ fits) | inr h ↦ let no = h.0 in cc ]

pub loop-code-preserved : goal.loop-code-preserved
loop-code-preserved c =
    let below : c.loop-code.code < length c.args.self.now = omega (arith, c.loop-code-test.true, c.len-code-end.ensures.count) in
    record {
      width = c.in-Ok.ensures.width ∙ c.loop-code.invariant.width;
      items =
          text_added c.args.self.now c.loop-code.code (option_copied c.text_of.result) c.loop-code.texts.items c.push.new.self.items below c.text_of.ensures c.loop-code.invariant.items
          c.in-Ok.ensures.ok;
    }
