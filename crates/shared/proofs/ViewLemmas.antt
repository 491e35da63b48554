-- What a worker shows when it has seen more, and when it has added a pair.
use Rattle.std.proofs.Common.{◌≡◌, ◌∙◌, ℕ, ◌<◌, ◌≤◌, List, [], ◌∷◌, ◌++◌, length, Option, ap, sym, subst, arith}
use Rattle.arrays.specs.Prelude.{FieldShape, Table}
use Rattle.histories.proofs.PrefixLemmas.{prefix_length}
use Rattle.shared.proofs.KnownLemmas.{begins_self, last_typed, pairs_more, wide_again}
use Rattle.shared.proofs.PartLemmas.{part_pushed}
use Rattle.shared.specs.Prelude.{Change, Hand, InOrder, IsBeginning, IsLegalKnown, IsWorkerOf, Known, Left, fields_after, having_added, having_seen, known_after, pair_added, pairs_in}
use Rattle.table.specs.Prelude.{History, IsTableOf, of, widened}
use Rattle.table.proofs.WidenedLemmas.{widened-again, widened-append}

-- the worker with these changes seen and these added
abbrev pub hand_after : List FieldShape → ℕ → List Change → List Change → ℕ → Option Left → Hand
hand_after first number seen mine columns left = record {
  number = number;
  seen = known_after first seen;
  mine = widened (length (fields_after first seen)) (pairs_in mine);
  columns = columns;
  left = left;
}

pub seen_after : (first : List FieldShape) (number : ℕ) (xs ys mine : List Change) (columns : ℕ) (left : Option Left) → IsBeginning (known_after first xs) (known_after first ys)
    → hand_after first number ys mine columns left ≡ having_seen (known_after first ys) (hand_after first number xs mine columns left)
seen_after first number xs ys mine columns left begun =
    let m = length (fields_after first xs) in
    let n = length (fields_after first ys) in
    let few : m ≤ n = prefix_length (fields_after first xs) (fields_after first ys) begun.fields in
    ap (λ (h : History). record { number = number; seen = known_after first ys; mine = h; columns = columns; left = left }) (sym (widened-again m n few (pairs_in mine)))

pub added_after : (first : List FieldShape) (number : ℕ) (xs ys mine more : List Change) (columns : ℕ) (left : Option Left) (t : Table)
    → known_after first ys ≡ (having_added t (hand_after first number xs mine columns left)).seen → more ≡ mine ++ pair_added (number, t) ∷ [] → IsLegalKnown (known_after first ys)
    → hand_after first number ys more columns left ≡ having_added t (hand_after first number xs mine columns left)
added_after first number xs ys mine more columns left t is added legal =
    let k = known_after first xs in
    let n = length k.fields in
    let typed : IsTableOf k.fields t = last_typed k.fields k.history number t (subst IsLegalKnown is legal) in
    let own : widened n (pairs_in more) ≡ widened n (pairs_in mine) ++ (number, t) ∷ [] =
    ap (λ (cs : List Change). widened n (pairs_in cs)) added
    ∙ ap (widened n) (pairs_more mine (number, t))
    ∙ widened-append n (pairs_in mine) ((number, t) ∷ [])
    ∙ ap (λ (u : Table). widened n (pairs_in mine) ++ (number, u) ∷ []) (wide_again k.fields t typed) in
    ap (λ (i : Known). record { number = number; seen = i; mine = widened (length i.fields) (pairs_in more); columns = columns; left = left }) is
    ∙ ap (λ (h : History). record { number = number; seen = record { fields = k.fields; history = k.history ++ (number, t) ∷ [] }; mine = h; columns = columns; left = left }) own

-- its pairs stay in their order
pub order_added : (number : ℕ) (t : Table) (old new : Hand) → new ≡ having_added t old → old.number ≡ number → InOrder old.mine (of old.seen.history number) → InOrder new.mine (of new.seen.history number)
order_added number t old new is numbered o =
    let one : InOrder (old.mine ++ (old.number, t) ∷ []) (of (old.seen.history ++ (old.number, t) ∷ []) number) =
    subst (λ m. InOrder (old.mine ++ (m, t) ∷ []) (of (old.seen.history ++ (m, t) ∷ []) number)) (sym numbered) (part_pushed old.mine old.seen.history number t o) in
    subst (λ (h : Hand). InOrder h.mine (of h.seen.history number)) (sym is) one

-- it is one of the table's workers by what it has seen itself
pub own_part : (count : ℕ) (first : List FieldShape) (number : ℕ) (xs mine : List Change) (columns : ℕ) (left : Option Left) → number < count → IsLegalKnown (known_after first xs)
    → InOrder (widened (length (fields_after first xs)) (pairs_in mine)) (of (known_after first xs).history number) → IsWorkerOf count (known_after first xs) (hand_after first number xs mine columns left)
own_part count first number xs mine columns left below legal o =
    let n = length (fields_after first xs) in
    record {
      below = below;
      begun = begins_self (known_after first xs) legal;
      ordered = subst (λ (h : History). InOrder h (of (known_after first xs).history number)) (sym (widened-again n n (omega arith) (pairs_in mine))) o;
    }
