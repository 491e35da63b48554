use Rattle.std.proofs.Common.{◌∷◌, ◌++◌, ◌+◌, ◌≤◌, [], ap, arith, length, subst, sym}
use Rattle.types.specs.OffsetSize.{most_of}
use Rattle.arrays.specs.Prelude.{SizedColumn, total}
use Rattle.arrays.proofs.LaidLemmas.{end-counted, grown, length-lengths_where}
use Rattle.arrays.proofs.builder.offsets.OffsetsBuilder.push.Goals as goal

pub push-requires : goal.push-requires
push-requires c =
    let s = c.self.inside in
    let fits = subst (λ w. total (c.args.self.now.lengths ++ c.args.slot ∷ []) ≤ most_of w) (sym (ap (λ (q : SizedColumn). q.width) c.self.view_is)) c.requires.fits in
    subst (λ m. s.total + m ≤ most_of s.width) (sym c.unwrap_or.ensures)
    (end-counted s.width s.valid s.offsets.items s.total c.args.self.now.lengths c.args.slot (ap (λ (q : SizedColumn). q.lengths) c.self.view_is) c.self.invariant fits)

pub push-requires-2 : goal.push-requires-2
push-requires-2 c =
    let s = c.self.inside in
    record { room = omega (arith, length-lengths_where s.width s.valid s.offsets.items, ap (λ (q : SizedColumn). length q.lengths) c.self.view_is) }

pub invariant_of-self-in-Ok : goal.invariant_of-self-in-Ok
invariant_of-self-in-Ok c =
    let s = c.self.inside in
    let fits = subst (λ w. total (c.args.self.now.lengths ++ c.args.slot ∷ []) ≤ most_of w) (sym (ap (λ (q : SizedColumn). q.width) c.self.view_is)) c.requires.fits in
    let short = subst (λ m. s.total + m ≤ most_of s.width) (sym c.unwrap_or.ensures)
    (end-counted s.width s.valid s.offsets.items s.total c.args.self.now.lengths c.args.slot (ap (λ (q : SizedColumn). q.lengths) c.self.view_is) c.self.invariant fits) in
    (grown s.width s.valid c.push-2.new.self s.offsets.items c.push.new.bytes.items s.total c.unwrap_or.result c.is_some.result c.args.self.now.lengths c.args.slot
    (ap (λ (q : SizedColumn). q.lengths) c.self.view_is) c.self.invariant c.is_some.ensures c.unwrap_or.ensures short c.in_ok-push.ensures.ok c.in-Ok.ensures.ok).fresh_still

pub returns-in-Ok-clause-ok : goal.returns-in-Ok-clause-ok
returns-in-Ok-clause-ok c =
    let s = c.self.inside in
    let fits = subst (λ w. total (c.args.self.now.lengths ++ c.args.slot ∷ []) ≤ most_of w) (sym (ap (λ (q : SizedColumn). q.width) c.self.view_is)) c.requires.fits in
    let short = subst (λ m. s.total + m ≤ most_of s.width) (sym c.unwrap_or.ensures)
    (end-counted s.width s.valid s.offsets.items s.total c.args.self.now.lengths c.args.slot (ap (λ (q : SizedColumn). q.lengths) c.self.view_is) c.self.invariant fits) in
    (grown s.width s.valid c.push-2.new.self s.offsets.items c.push.new.bytes.items s.total c.unwrap_or.result c.is_some.result c.args.self.now.lengths c.args.slot
    (ap (λ (q : SizedColumn). q.lengths) c.self.view_is) c.self.invariant c.is_some.ensures c.unwrap_or.ensures short c.in_ok-push.ensures.ok c.in-Ok.ensures.ok).one_more
