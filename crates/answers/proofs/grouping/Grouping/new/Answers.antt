use Rattle.std.proofs.Common.{◌≡◌, ◌∙◌, ◌∷◌, [], List, ap, length, map, subst, sym}
use Rattle.std.proofs.lemmas.Bool.{eqb-false, eqb-true}
use Rattle.indexmap.specs.IndexSet.{insert_key}
use Rattle.arrays.specs.Prelude.{Item}
use Rattle.tallies.specs.Prelude.{padded, show_column, tally_of}
use Rattle.answers.specs.Grouping.{IsGrouped}
use Rattle.keys.specs.Same.{same_key}
use Rattle.tallies.proofs.ColumnLemmas.{shape}
use Rattle.answers.proofs.GroupLemmas.{start_keyed, start_whole}
use Rattle.answers.proofs.grouping.Grouping.new.Goals as goal
use Rattle.answers.proofs.grouping.Grouping.new.Goals.{then-is_empty+in_ok-add_empty, else-is_empty}

pub returns : goal.returns
returns c =
    let q = c.args.query.now in
    let by = q.by.items in
    let aggs = q.aggs.items in
    let cs = map show_column c.in_ok-columns.columns.items in
    let all = c.in_ok-columns.ensures ∙ ap (map (λ a. shape a (padded c.len.result (tally_of a []) []))) c.as_slice.ensures.value in
    elim c.if-is_empty.branch [
      | then-is_empty+in_ok-add_empty w ↦
          let k : c.if-is_empty.keys ≡ [] ∷ [] = w.keys-is ∙ w.in_ok-add_empty.ensures ∙ ap (λ l. insert_key same_key l []) c.new-keys.ensures in (
            subst (λ (l : List (List Item)). IsGrouped by aggs [] l cs) (sym k)
                (start_whole by aggs cs (eqb-true (length by) 0 (sym c.is_empty.ensures ∙ w.if-is_empty.true))
                (all ∙ ap (λ n. map (λ a. shape a (padded n (tally_of a []) [])) aggs) (c.len.ensures ∙ ap length k))),
            c.new.ensures c.if-is_empty.keys,
          )
      | else-is_empty w ↦
          let k : c.if-is_empty.keys ≡ [] = w.keys-is ∙ c.new-keys.ensures in (
            subst (λ (l : List (List Item)). IsGrouped by aggs [] l cs) (sym k)
                (start_keyed by aggs cs (eqb-false (length by) 0 (sym c.is_empty.ensures ∙ w.if-is_empty.false))
                (all ∙ ap (λ n. map (λ a. shape a (padded n (tally_of a []) [])) aggs) (c.len.ensures ∙ ap length k))),
            c.new.ensures c.if-is_empty.keys,
          )
    ]
