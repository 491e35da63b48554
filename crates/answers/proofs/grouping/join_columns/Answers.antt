use Rattle.std.proofs.Common.{◌∙◌, ◌<◌, [], List, ap, arith, le_refl, length, subst, sym}
use Rattle.std.proofs.lemmas.List.{get_or_default, length-map, length-set}
use Rattle.std.proofs.lemmas.List.Elements.{All-get_or}
use Rattle.query.specs.declared.expr.Agg.{Agg}
use Rattle.tallies.specs.Prelude.{AreAlike, ColumnShape, IsColumnOf, column_of, padded, show_column, spread_all}
use Rattle.tallies.specs.declared.column.TallyColumn.{TallyColumn}
use Rattle.tallies.proofs.ColumnLemmas.{mapped}
use Rattle.answers.proofs.ListLemmas.{changed_by_place, place_changed, place_kept}
use Rattle.answers.proofs.JoinLemmas.{agg_there}
use Rattle.tallies.proofs.MergedLemmas.{tables_counted}
use Rattle.answers.proofs.grouping.join_columns.Goals as goal

pub join-requires-clause-same : goal.join-requires-clause-same
join-requires-clause-same c =
    let xs = c.args.columns.now in
    let i = c.loop-i.i in
    let x = c.index-columns-i.result in
    let other = c.index-others-i.result in
    let below : i < length xs = omega (arith, c.loop-i-test.true, c.loop-i.auto.i-end) in
    ap (λ t. (show_column t).agg) c.index-others-i.is
    ∙ agg_there xs c.args.others.now i x other c.requires.same below
    ∙ ap (λ t. (show_column t).agg) (sym (c.loop-i.invariant.rest i x (le_refl i)))

pub join-requires-clause-lengths : goal.join-requires-clause-lengths
join-requires-clause-lengths c =
    let r = c.requires.few in
    let i = c.loop-i.i in
    let others = c.args.others.now in
    let other = c.index-others-i.result in
    let f = λ (t : TallyColumn). (show_column t).agg in
    let below : i < length others =
    omega (arith, c.loop-i-test.true, c.loop-i.auto.i-end, length-map others f, length-map c.args.columns.now f, ap (λ (l : List (Agg _)). length l) c.requires.same) in
    let is : IsColumnOf r.2 other = subst (IsColumnOf r.2) (sym c.index-others-i.is) (All-get_or (IsColumnOf r.2) others i other below r.4) in
    sym r.8 ∙ sym (tables_counted (show_column other) r.2 is)

pub join-requires-clause-few : goal.join-requires-clause-few
join-requires-clause-few c =
    let r = c.requires.few in
    let xs = c.args.columns.now in
    let others = c.args.others.now in
    let i = c.loop-i.i in
    let x = c.index-columns-i.result in
    let other = c.index-others-i.result in
    let f = λ (t : TallyColumn). (show_column t).agg in
    let below : i < length xs = omega (arith, c.loop-i-test.true, c.loop-i.auto.i-end) in
    let beside : i < length others = omega (arith, below, length-map others f, length-map xs f, ap (λ (l : List (Agg _)). length l) c.requires.same) in
    let here = sym (c.loop-i.invariant.rest i x (le_refl i)) in (
      r.0,
      r.1,
      r.2,
      subst (IsColumnOf r.1) here (All-get_or (IsColumnOf r.1) xs i x below r.3),
      subst (IsColumnOf r.2) (sym c.index-others-i.is) (All-get_or (IsColumnOf r.2) others i other beside r.4),
      subst (λ t. AreAlike r.0 r.1 (show_column t).agg) here (All-get_or (λ (t : TallyColumn). AreAlike r.0 r.1 (show_column t).agg) xs i x below r.5),
      subst (λ t. AreAlike r.0 r.2 (show_column t).agg) here (All-get_or (λ (t : TallyColumn). AreAlike r.0 r.2 (show_column t).agg) xs i x below r.6),
      r.7,
      r.9,
    )

pub loop-i-preserved : goal.loop-i-preserved
loop-i-preserved c =
    let v = c.loop-i.invariant in
    let xs = c.args.columns.now in
    let ys = c.loop-i.columns in
    let others = c.args.others.now in
    let i = c.loop-i.i in
    let x = c.index-columns-i.result in
    let other = c.index-others-i.result in
    let new = c.join.new.self in
    let f = λ (t : TallyColumn). (show_column t).agg in
    let below : i < length xs = omega (arith, c.loop-i-test.true, c.loop-i.auto.i-end) in
    let within : i < length ys = omega (arith, below, v.size) in
    let beside : i < length others = omega (arith, below, length-map others f, length-map xs f, ap (λ (l : List (Agg _)). length l) c.requires.same) in
    let here = sym (v.rest i x (le_refl i)) in record {
      size = length-set ys i new ∙ v.size;
      joined = λ kinds tables more are others_are alike others_alike.
          let spreads = spread_all c.args.ids.now more (padded c.args.groups [] tables) in
          place_changed show_column (λ (t : TallyColumn). column_of spreads (show_column t).agg) xs ys i new within (v.joined kinds tables more are others_are alike others_alike)
          (λ d. c.in_ok-join.ensures kinds tables more
          (subst (IsColumnOf tables) here (All-get_or (IsColumnOf tables) xs i x below are))
          (subst (IsColumnOf more) (sym c.index-others-i.is) (All-get_or (IsColumnOf more) others i other beside others_are))
          (subst (λ t. AreAlike kinds tables (show_column t).agg) here (All-get_or (λ (t : TallyColumn). AreAlike kinds tables (show_column t).agg) xs i x below alike))
          (subst (λ t. AreAlike kinds more (show_column t).agg) here (All-get_or (λ (t : TallyColumn). AreAlike kinds more (show_column t).agg) xs i x below others_alike))
          ∙ ap (λ t. column_of spreads (show_column t).agg) (sym here ∙ get_or_default xs i x d below));
      rest = place_kept show_column show_column xs ys i new within v.rest;
    }

pub returns : goal.returns
returns c = λ kinds tables more are others alike others_alike.
    let spreads = spread_all c.args.ids.now more (padded c.args.groups [] tables) in
    changed_by_place show_column (λ (s : ColumnShape). column_of spreads s.agg) c.args.columns.now c.loop-i.columns c.loop-i.invariant.size
    (λ k d below. c.loop-i.invariant.joined kinds tables more are others alike others_alike k d (omega (arith, below, c.loop-i-test.false)))
    ∙ mapped (λ (s : ColumnShape). column_of spreads s.agg) show_column c.args.columns.now
