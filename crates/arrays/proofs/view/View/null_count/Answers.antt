use Rattle.std.proofs.Common.{◌∙◌, ◌-◌, length, ap, sym}
use Rattle.arrays.proofs.SlotLemmas.{nulls_counted}
use Rattle.arrays.proofs.view.View.null_count.Goals as goal

pub returns-in-Some : goal.returns-in-Some
returns-in-Some c =
    ap (λ n. n - c.count_ones.result) c.len.ensures
    ∙ ap (λ n. length c.in-Some.bits - n) c.count_ones.ensures
    ∙ nulls_counted c.in-Some.bits c.args.self.now.validity (sym c.validity.ensures ∙ c.in-Some.is)
