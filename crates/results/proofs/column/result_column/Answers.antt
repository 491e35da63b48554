use Rattle.std.proofs.Common.{◌≡◌, ◌∙◌, IfOk, ap, map, subst, sym, true}
use Rattle.std.specs.List.{list_all}
use Rattle.answers.specs.Answers.{group_shape}
use Rattle.results.specs.Result.{is_of, item_at, result_column}
use Rattle.results.specs.declared.result_type.ResultType.TheVariants.{Bool, Int}
use Rattle.results.proofs.ColumnLemmas.{all-of, column_of_others, column_of_texts, column_of_type}
use Rattle.results.proofs.column.result_column.Goals as goal

pub returns-then-not-are_of : goal.returns-then-not-are_of
returns-then-not-are_of c =
    let items = map (item_at c.args.place) (map group_shape c.args.groups.now) in
    let other = all-of c.args.ty c.args.place c.args.groups.now c.are_of.result c.are_of.ensures ∙ c.if-not-are_of.true in
    subst (λ s. IfOk c.text_column.result (λ a. a ≡ s)) (column_of_others c.args.ty items other) c.text_column.ensures

pub returns-in-Int : goal.returns-in-Int
returns-in-Int c =
    let items = map (item_at c.args.place) (map group_shape c.args.groups.now) in
    let all = all-of c.args.ty c.args.place c.args.groups.now c.are_of.result c.are_of.ensures ∙ c.if-not-are_of.false in
    let known = subst (λ t. list_all (is_of t) items ≡ true) c.in-Int.is all in
    subst (λ s. IfOk c.int_column.result (λ a. a ≡ s)) (column_of_type (Int c.in-Int.int) items known ∙ ap (λ t. result_column t items) (sym c.in-Int.is)) c.int_column.ensures

pub returns-in-Bool : goal.returns-in-Bool
returns-in-Bool c =
    let items = map (item_at c.args.place) (map group_shape c.args.groups.now) in
    let all = all-of c.args.ty c.args.place c.args.groups.now c.are_of.result c.are_of.ensures ∙ c.if-not-are_of.false in
    let known = subst (λ t. list_all (is_of t) items ≡ true) c.in-Bool.is all in
    subst (λ s. IfOk c.bool_column.result (λ a. a ≡ s)) (column_of_type Bool items known ∙ ap (λ t. result_column t items) (sym c.in-Bool.is)) c.bool_column.ensures

pub returns-in-Text : goal.returns-in-Text
returns-in-Text c =
    let items = map (item_at c.args.place) (map group_shape c.args.groups.now) in
    let all = all-of c.args.ty c.args.place c.args.groups.now c.are_of.result c.are_of.ensures ∙ c.if-not-are_of.false in
    let known = subst (λ t. list_all (is_of t) items ≡ true) c.in-Text.is all in
    subst (λ s. IfOk c.text_column-in-Text.result (λ a. a ≡ s)) (column_of_texts items known ∙ ap (λ t. result_column t items) (sym c.in-Text.is)) c.text_column-in-Text.ensures
