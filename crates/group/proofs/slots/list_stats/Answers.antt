use Rattle.std.proofs.Common.{◌≡◌, ◌∙◌, length, take, ap, sym, arith, rules}
use Rattle.std.proofs.Math.Seq.{take-length}
use Rattle.group.specs.Stats.{nulls_of}
use Rattle.group.proofs.TallyLemmas.{no_least_of_lists, no_greatest_of_lists, no_sum_of_lists}
use Rattle.group.proofs.slots.list_stats.Goals as goal

pub returns : goal.returns
returns c =
    let s = c.args.view.now in
    let at_end : c.loop-i.i ≡ length s.items = omega (arith, c.slots-slots.ensures.count, c.loop-i-test.false, c.loop-i.auto) in
    record {
      rows = search rules;
      nulls = c.loop-i.invariant.counted ∙ ap (λ n. nulls_of (take n s.items)) at_end ∙ ap nulls_of (take-length s.items);
      sum = sym (no_sum_of_lists s.kind s.items c.requires);
      least = sym (no_least_of_lists s.kind s.items c.requires);
      greatest = sym (no_greatest_of_lists s.kind s.items c.requires);
    }
