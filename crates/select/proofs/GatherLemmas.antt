-- Lists and their items, gathered.
use Rattle.std.proofs.Common.{◌≡◌, ◌∙◌, ℕ, List, length, map, Option, ap, sym}
use Rattle.std.specs.Prelude.{All}
use Rattle.arrays.specs.Prelude.{HasLists, Item, OffsetWidth, Seen, cut, inner_items, list_length, shown, total}
use Rattle.arrays.specs.Kind as kind
use Rattle.select.specs.Prelude.{IsPick, chosen, picked}
use Rattle.select.proofs.ChosenLemmas.{items-chosen, kind-chosen}
use Rattle.select.proofs.ListLemmas.{cut-again, lists-picked, total-lengths}

pub total_finished : (child made : Seen) (items : List Item) (rows lengths : List (Option ℕ)) → lengths ≡ map list_length items → picked child.items rows ≡ inner_items items
    → made ≡ chosen child.kind (λ xs. picked xs rows) child → total lengths ≡ length made.items
total_finished child made items rows lengths lengths_are rows_are is =
    ap total lengths_are
    ∙ total-lengths items
    ∙ ap (λ (l : List Item). length l) (sym rows_are)
    ∙ ap (λ (l : List Item). length l) (sym (ap (λ (s : Seen). s.items) is ∙ items-chosen child.kind (λ xs. picked xs rows) child))

pub kind_finished : (child made : Seen) (rows : List (Option ℕ)) → made ≡ chosen child.kind (λ xs. picked xs rows) child → made.kind ≡ child.kind
kind_finished child made rows is = ap (λ (s : Seen). s.kind) is ∙ kind-chosen child.kind (λ xs. picked xs rows) child

pub lists_finished : (w v : OffsetWidth) (offsets : List ℕ) (s child made : Seen) (picks rows lengths : List (Option ℕ)) → HasLists offsets child s → s.kind ≡ kind.lists w child.kind → v ≡ w → All (IsPick (length s.items)) picks
    → lengths ≡ map list_length (picked s.items picks) → picked child.items rows ≡ inner_items (picked s.items picks) → made ≡ chosen child.kind (λ xs. picked xs rows) child
    → shown (kind.lists v made.kind) (cut lengths made.items) ≡ chosen s.kind (λ xs. picked xs picks) s
lists_finished w v offsets s child made picks rows lengths has kind_is same within lengths_are rows_are is =
    let items = picked s.items picks in
    let present : made.items ≡ inner_items items = ap (λ (s : Seen). s.items) is ∙ items-chosen child.kind (λ xs. picked xs rows) child ∙ rows_are in
    ap (λ u. shown (kind.lists u made.kind) (cut lengths made.items)) same
    ∙ ap (λ k. shown (kind.lists w k) (cut lengths made.items)) (kind_finished child made rows is)
    ∙ ap (λ l. shown (kind.lists w child.kind) (cut l made.items)) lengths_are
    ∙ ap (λ l. shown (kind.lists w child.kind) (cut (map list_length items) l)) present
    ∙ ap (shown (kind.lists w child.kind)) (cut-again items (lists-picked offsets child s picks has within))
    ∙ ap (λ k. chosen k (λ xs. picked xs picks) s) (sym kind_is)
