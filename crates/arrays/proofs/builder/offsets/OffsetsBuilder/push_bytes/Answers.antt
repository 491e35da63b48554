use Rattle.std.proofs.Common.{◌∙◌, ◌++◌, ◌-◌, ◌≤◌, ap, arith, drop, length, subst, sym, take}
use Rattle.types.specs.OffsetSize.{most_of}
use Rattle.layout.specs.Offsets.{AreBytesOf}
use Rattle.arrays.specs.Prelude.{AreFresh, SizedColumn, lengths_by, total}
use Rattle.arrays.proofs.ExtendedLemmas.{joined}
use Rattle.arrays.proofs.LaidLemmas.{length-lengths_where}
use Rattle.arrays.proofs.builder.offsets.OffsetsBuilder.push_bytes.Goals as goal

pub push_valid-requires : goal.push_valid-requires
push_valid-requires c =
    let s = c.self.inside in
    record { room = omega (arith, c.requires.room, length-lengths_where s.width s.valid s.offsets.items, ap (λ (q : SizedColumn). length q.lengths) c.self.view_is) }

pub invariant_of-self-in-Ok : goal.invariant_of-self-in-Ok
invariant_of-self-in-Ok c =
    let s = c.self.inside in
    let width_is = ap (λ (q : SizedColumn). q.width) c.self.view_is in
    let after_is = c.in_ok-extend_from_slice.ensures.items ∙ ap (λ k. s.offsets.items ++ take (length c.args.bytes.now - k) (drop k c.args.bytes.now)) c.bytes-first.ensures in
    subst (AreFresh s.width c.push_valid.new.self c.extend_from_slice.new.self.items) (sym c.get-self-inside.ensures)
    (joined s.width s.valid c.push_valid.new.self c.args.count s.total s.offsets.items c.extend_from_slice.new.self.items c.args.bytes.now c.args.offsets.now c.args.self.now.lengths
    (ap (λ (q : SizedColumn). q.lengths) c.self.view_is) c.self.invariant (subst (λ w. AreBytesOf w c.args.bytes.now c.args.offsets.now) (sym width_is) c.requires.bytes) c.requires.offsets c.requires.goes_on
    (subst (λ w. total (c.args.self.now.lengths ++ lengths_by c.args.offsets.now c.args.count) ≤ most_of w) (sym width_is) c.requires.fits) after_is c.in-Ok.ensures.ok).fresh_still

pub returns-in-Ok-clause-ok : goal.returns-in-Ok-clause-ok
returns-in-Ok-clause-ok c =
    let s = c.self.inside in
    let width_is = ap (λ (q : SizedColumn). q.width) c.self.view_is in
    let after_is = c.in_ok-extend_from_slice.ensures.items ∙ ap (λ k. s.offsets.items ++ take (length c.args.bytes.now - k) (drop k c.args.bytes.now)) c.bytes-first.ensures in
    (joined s.width s.valid c.push_valid.new.self c.args.count s.total s.offsets.items c.extend_from_slice.new.self.items c.args.bytes.now c.args.offsets.now c.args.self.now.lengths
    (ap (λ (q : SizedColumn). q.lengths) c.self.view_is) c.self.invariant (subst (λ w. AreBytesOf w c.args.bytes.now c.args.offsets.now) (sym width_is) c.requires.bytes) c.requires.offsets c.requires.goes_on
    (subst (λ w. total (c.args.self.now.lengths ++ lengths_by c.args.offsets.now c.args.count) ≤ most_of w) (sym width_is) c.requires.fits) after_is c.in-Ok.ensures.ok).all_slots
