use Rattle.std.proofs.Common.{◌∙◌, ap, arith, length, sym, subst}
use Rattle.std.specs.Int.{w128}
use Rattle.std.proofs.lemmas.Int.{to_z-of_z}
use Rattle.arrays.specs.Column.{Column}
use Rattle.types.specs.Number.{IsOfType}
use Rattle.arrays.proofs.BuilderLemmas.{length-built, tried}
use Rattle.arrays.proofs.builder.IntBuilder.add.Goals as goal

pub mark-requires-clause-room : goal.mark-requires-clause-room
mark-requires-clause-room c =
    let s = c.self.inside in
    omega (arith, length-built s.ty s.values.items s.valid, ap (λ (v : Column). length v.items) c.self.view_is)

pub invariant_of-self-2 : goal.invariant_of-self-2
invariant_of-self-2 c =
    let s = c.self.inside in
    let m = c.mark.ensures in
    (tried c.mark.result s.ty s.ty s.values.items c.push_number.new.bytes.items c.mark.new.values.items s.valid c.mark.new.slots c.len-before.result _ c.args.number c.args.valid c.args.self.now
    c.self.view_is c.self.invariant c.requires.of_type c.requires.room (ap (λ (v : Column). v.ty) c.self.view_is) (to_z-of_z w128 c.args.number c.ranges.number)
    c.in_ok-push_number.ensures.ok (c.len-before.ensures ∙ s.values.ok.0) m.ok_values m.ok_slots m.err_values m.err_slots).built_still

pub returns-clause-ok : goal.returns-clause-ok
returns-clause-ok c =
    let s = c.self.inside in
    let m = c.mark.ensures in
    (tried c.mark.result s.ty s.ty s.values.items c.push_number.new.bytes.items c.mark.new.values.items s.valid c.mark.new.slots c.len-before.result _ c.args.number c.args.valid c.args.self.now
    c.self.view_is c.self.invariant c.requires.of_type c.requires.room (ap (λ (v : Column). v.ty) c.self.view_is) (to_z-of_z w128 c.args.number c.ranges.number)
    c.in_ok-push_number.ensures.ok (c.len-before.ensures ∙ s.values.ok.0) m.ok_values m.ok_slots m.err_values m.err_slots).one_more

pub push_number-requires : goal.push_number-requires
push_number-requires c =
    let same = to_z-of_z w128 c.args.number c.ranges.number in
    subst (IsOfType c.self.inside.ty) (sym same) (subst (λ t. IsOfType t c.args.number) (sym (ap (λ (v : Column). v.ty) c.self.view_is)) c.requires.of_type)
