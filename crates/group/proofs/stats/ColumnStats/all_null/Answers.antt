use Rattle.std.proofs.Common.{◌≡◌, ◌∙◌, [], sym, rules}
use Rattle.std.proofs.lemmas.List.{length-replicate}
use Rattle.arrays.specs.Prelude.{null, view_kind}
use Rattle.group.specs.Stats.{sum_of}
use Rattle.group.proofs.NullLemmas.{all_counted, no_greatest, no_least, sum_of_nulls}
use Rattle.group.proofs.stats.ColumnStats.all_null.Goals as goal

pub returns : goal.returns
returns c =
    let k = view_kind c.args.ty in
    let n = c.args.rows in
    let sum : c.match-ty.sum ≡ sum_of k [] = search rules in
    record {
      rows = sym (length-replicate n null);
      nulls = sym (all_counted n);
      sum = sum ∙ sym (sum_of_nulls k n);
      least = sym (no_least k n);
      greatest = sym (no_greatest k n);
    }
