-- What is answered of groups, from one up to another.
use Rattle.std.proofs.Common.{◌≡◌, ◌∙◌, ◌+◌, ◌-◌, ◌≤◌, ℕ, zero, suc, List, [], ◌∷◌, ◌++◌, ap, arith, length, map, refl, slice_index_or, sym, take}
use Rattle.std.specs.Prelude.{Some, slice_get}
use Rattle.std.specs.List.{range_with_len}
use Rattle.std.proofs.lemmas.List.{map-append}
use Rattle.std.proofs.lemmas.List.FromFn.{map-range_with_len_more}
use Rattle.std.proofs.lemmas.Option.{get_or_from_slice_get, slice_get-get_or}
use Rattle.arrays.specs.Prelude.{Item, Table}
use Rattle.query.specs.declared.expr.Agg.{Agg}
use Rattle.tallies.specs.Columns.{show_column, cell_of_group}
use Rattle.answers.specs.Prelude.{GroupShape, IsGrouped, group_at, grouped, groups_from}
use Rattle.answers.specs.declared.grouping.Grouping.{Grouping}
use Rattle.answers.proofs.GroupLemmas.{reported_more, reported_whole}
use Rattle.answers.proofs.MaskLemmas.{range-append}

abbrev make : List Item → List Item → GroupShape
make k cells = record { keys = k; cells = cells }

-- With one group more.
pub reported_next : (g : Grouping) (from n : ℕ) (k cells : List Item) (front new : List GroupShape) → from ≤ n → slice_get g.keys n ≡ Some k
    → cells ≡ map (cell_of_group n) (map show_column g.columns.items) → front ≡ groups_from g from (n - from) → new ≡ front ++ make k cells ∷ [] → new ≡ groups_from g from (n + 1 - from)
reported_next g from n k cells front new order is reported so more =
    let here : make k cells ≡ group_at g n = ap (λ (x : List Item). make x cells) (sym (get_or_from_slice_get g.keys n k [] is)) ∙ ap (make (slice_index_or g.keys n [])) reported in
    let next : (n - from) + 1 ≡ n + 1 - from = omega (arith, order) in
    more ∙ ap (λ (l : List GroupShape). l ++ make k cells ∷ []) so
    ∙ ap (λ x. groups_from g from (n - from) ++ x ∷ []) here
    ∙ sym (map-range_with_len_more (group_at g) from (n - from) n (omega (arith, order)))
    ∙ ap (groups_from g from) next

-- One part and the part behind it.
pub reported_parts : (g : Grouping) (from middle to : ℕ) (front back whole : List GroupShape) → from ≤ middle → middle ≤ to
    → front ≡ groups_from g from (middle - from) → back ≡ groups_from g middle (to - middle) → whole ≡ front ++ back → whole ≡ groups_from g from (to - from)
reported_parts g from middle to front back whole low high so also is =
    let all : (middle - from) + (to - middle) ≡ to - from = omega (arith, low, high) in
    let first : from + (middle - from) ≡ middle = omega (arith, low) in
    is ∙ ap (λ (l : List GroupShape). l ++ back) so
    ∙ ap (λ (l : List GroupShape). groups_from g from (middle - from) ++ l) (also ∙ ap (λ n. groups_from g n (to - middle)) (sym first))
    ∙ sym (map-append (group_at g) (range_with_len from (middle - from)) (range_with_len (from + (middle - from)) (to - middle)))
    ∙ ap (map (group_at g)) (sym (range-append from (middle - from) (to - middle)))
    ∙ ap (groups_from g from) all

front_reported : (by : List ℕ) (aggs : List (Agg ℕ)) (rows : Table) (g : Grouping) → IsGrouped by aggs rows g.keys (map show_column g.columns.items)
    → (n : ℕ) → n ≤ length g.keys → groups_from g 0 n ≡ take n (grouped by aggs rows)
front_reported by aggs rows g h zero below = refl
front_reported by aggs rows g h (suc n) below =
    let columns = map show_column g.columns.items in
    let k = slice_index_or g.keys n [] in
    let is : slice_get g.keys n ≡ Some k = slice_get-get_or g.keys n [] (omega (arith, below)) in
    let one : suc n ≡ n + 1 = omega arith in
    ap (groups_from g 0) one
    ∙ reported_more by aggs rows g.keys columns n k (map (cell_of_group n) columns) (groups_from g 0 n) (groups_from g 0 (n + 1)) h is refl (front_reported by aggs rows g h n (omega (arith, below)))
    (map-range_with_len_more (group_at g) 0 n n (omega arith))
    ∙ ap (λ m. take m (grouped by aggs rows)) (sym one)

-- All groups are those that the query asks for.
pub reported_all : (by : List ℕ) (aggs : List (Agg ℕ)) (rows : Table) (g : Grouping) (count : ℕ) → count ≡ length g.keys → IsGrouped by aggs rows g.keys (map show_column g.columns.items)
    → groups_from g 0 (count - 0) ≡ grouped by aggs rows
reported_all by aggs rows g count is h =
    let none : count - 0 ≡ count = omega arith in
    ap (groups_from g 0) none ∙ front_reported by aggs rows g h count (omega (arith, is)) ∙ reported_whole by aggs rows g.keys (map show_column g.columns.items) count h (omega (arith, is))
