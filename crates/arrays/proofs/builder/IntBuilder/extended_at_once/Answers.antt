use Rattle.std.proofs.Common.{ap, arith, length}
use Rattle.arrays.specs.Column.{Column}
use Rattle.arrays.proofs.BuilderLemmas.{length-built, extended}
use Rattle.arrays.proofs.builder.IntBuilder.extended_at_once.Goals as goal

pub push_slots-requires : goal.push_slots-requires
push_slots-requires c =
    let s = c.self.inside in
    record { room = omega (arith, length-built s.ty s.values.items s.valid, ap (λ (v : Column). length v.items) c.self.view_is) }

pub invariant_of-result : goal.invariant_of-result
invariant_of-result c =
    let s = c.self.inside in
    (extended s.ty s.values.items c.args.numbers.now c.extend_from_slice.new.self.items s.valid c.push_slots.new.self c.args.validity.now c.args.count c.args.self c.self.view_is c.self.invariant
    c.requires.size c.requires.room c.in_ok-extend_from_slice.ensures.items c.in_ok-push_slots.ensures.ok).built_still

pub returns-clause-items : goal.returns-clause-items
returns-clause-items c =
    let s = c.self.inside in
    (extended s.ty s.values.items c.args.numbers.now c.extend_from_slice.new.self.items s.valid c.push_slots.new.self c.args.validity.now c.args.count c.args.self c.self.view_is c.self.invariant
    c.requires.size c.requires.room c.in_ok-extend_from_slice.ensures.items c.in_ok-push_slots.ensures.ok).many_more
