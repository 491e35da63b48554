use Rattle.std.proofs.Common.{◌∙◌, ◌++◌, true, map, replicate, ap, sym}
use Rattle.std.specs.List.{range_with_len}
use Rattle.std.proofs.lemmas.List.{append_assoc}
use Rattle.std.proofs.lemmas.List.FromFn.{length-map-range_with_len}
use Rattle.std.proofs.lemmas.Result.{on_ok_weaker}
use Rattle.colbits.specs.Bitmap.{bit_of}
use Rattle.colbits.proofs.BuildingLemmas.{all_ones}
use Rattle.layout.specs.Seen.{valid_in}
use Rattle.arrays.proofs.SlotsLemmas.{short_still}
use Rattle.arrays.proofs.builder.validity.ValidityBuilder.push_slots.Goals as goal

pub returns-in-None-clause-ok : goal.returns-in-None-clause-ok
returns-in-None-clause-ok c =
    let now = c.args.self.now in
    let slots = range_with_len 0 c.args.count in
    on_ok_weaker c.push_valid.result
    (λ grows. grows ∙ ap (λ xs. now ++ xs) (sym (all_ones c.args.count)) ∙ ap (λ v. now ++ map (valid_in v) slots) (sym c.in-None.is))
    c.push_valid.ensures.ok

pub returns-in_ok-push_places-in-Some-clause-ok : goal.returns-in_ok-push_places-in-Some-clause-ok
returns-in_ok-push_places-in-Some-clause-ok c =
    let s = c.self.inside in
    let ones = replicate s.before true in
    let slots = range_with_len 0 c.args.count in
    let reported = map (bit_of c.in-Some.bits) slots in
    ap (λ xs. ones ++ xs) c.in_ok-push_places-in-Some.ensures.ok
    ∙ sym (append_assoc ones s.after reported)
    ∙ ap (λ xs. xs ++ reported) c.self.view_is
    ∙ ap (λ v. c.args.self.now ++ map (valid_in v) slots) (sym c.in-Some.is)

pub invariant_of-self-in-Some : goal.invariant_of-self-in-Some
invariant_of-self-in-Some c =
    let s = c.self.inside in
    let reported = map (bit_of c.in-Some.bits) (range_with_len 0 c.args.count) in
    short_still c.push_places.result s.before c.args.count _ s.after c.push_places.new.self reported c.args.self.now c.self.view_is
    (length-map-range_with_len (bit_of c.in-Some.bits) 0 c.args.count) c.requires.room c.push_places.ensures.ok c.push_places.ensures.err
