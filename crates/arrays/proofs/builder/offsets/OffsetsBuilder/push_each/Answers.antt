use Rattle.std.proofs.Common.{◌≡◌, ◌∙◌, ◌+◌, ◌-◌, ◌∷◌, ◌++◌, [], Some, ap, arith, length, length-append, sym}
use Rattle.std.proofs.lemmas.List.{append_assoc}
use Rattle.types.specs.OffsetSize.{most_of}
use Rattle.layout.specs.Offsets.{length_of, start_of}
use Rattle.arrays.specs.Prelude.{lengths_by, total}
use Rattle.arrays.proofs.ExtendedLemmas.{length-lengths_by, lengths-fit, lengths_by-more}
use Rattle.arrays.proofs.builder.offsets.OffsetsBuilder.push_each.Goals as goal

pub push-requires-clause-room : goal.push-requires-clause-room
push-requires-clause-room c =
    let old = c.args.self.now.lengths in
    let offsets = c.args.offsets.now in
    omega (
      arith,
      c.requires.room,
      c.loop-i-test.true,
      ap length c.loop-i.invariant.lengths,
      length-append old (lengths_by offsets c.loop-i.i),
      length-lengths_by offsets c.loop-i.i,
    )

pub push-requires-clause-fits : goal.push-requires-clause-fits
push-requires-clause-fits c =
    let offsets = c.args.offsets.now in
    let slots = c.loop-i.self.lengths in
    let same : c.get.result - c.get-in-loop-i.result ≡ length_of offsets c.loop-i.i =
    ap (λ e. e - c.get-in-loop-i.result) c.get.ensures ∙ ap (λ s. start_of offsets (c.loop-i.i + 1) - s) c.get-in-loop-i.ensures in
    let within = lengths-fit c.args.count offsets (start_of offsets c.args.count) c.requires.offsets c.args.self.now.lengths slots c.loop-i.i c.loop-i-test.true c.loop-i.invariant.lengths in
    omega (
      arith,
      within,
      c.requires.fits,
      ap most_of c.loop-i.invariant.width,
      ap (λ l. total (slots ++ Some l ∷ [])) same,
    )

pub loop-i-preserved : goal.loop-i-preserved
loop-i-preserved c =
    let old = c.args.self.now.lengths in
    let offsets = c.args.offsets.now in
    let i = c.loop-i.i in
    let same : c.get.result - c.get-in-loop-i.result ≡ length_of offsets i =
    ap (λ e. e - c.get-in-loop-i.result) c.get.ensures ∙ ap (λ s. start_of offsets (i + 1) - s) c.get-in-loop-i.ensures in
    record {
      width = c.in_ok-push.ensures.width ∙ c.loop-i.invariant.width;
      lengths =
          c.in_ok-push.ensures.ok
          ∙ ap (λ ls. ls ++ Some (c.get.result - c.get-in-loop-i.result) ∷ []) c.loop-i.invariant.lengths
          ∙ ap (λ l. (old ++ lengths_by offsets i) ++ Some l ∷ []) same
          ∙ append_assoc old (lengths_by offsets i) (Some (length_of offsets i) ∷ [])
          ∙ ap (λ ls. old ++ ls) (sym (lengths_by-more offsets i));
    }
