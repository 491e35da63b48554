-- Groups of neighbouring tables.
use Rattle.std.proofs.Common.{◌≡◌, ◌∙◌, inl, inr, ℕ, zero, suc, ◌+◌, ◌-◌, ◌≤◌, ◌<◌, List, [], ◌∷◌, ◌++◌, length, take, drop, true, false, get_or, ap, sym, refl, subst, arith, append_assoc, length-drop, true≢false}
use Rattle.std.proofs.lemmas.Grind.{flat_map-append}
use Rattle.std.proofs.lemmas.List.{append-nil, take-append-drop}
use Rattle.std.proofs.Math.Seq.{take-add}
use Rattle.std.proofs.lemmas.Bool.{cases_lt}
use Rattle.arrays.specs.Prelude.{FieldShape, Table}
use Rattle.compaction.specs.Neighbours.{AreApart, AreGroups, IsGroup, is_one, together}
use Rattle.compaction.proofs.FitLemmas.{not-one-more, one-front}

pub together-append : (xs ys : List Table) → together (xs ++ ys) ≡ together xs ++ together ys
together-append xs ys = flat_map-append (λ (t : Table). t) xs ys

-- the rows of a front, and those behind it
pub together-split : (n : ℕ) (tables : List Table) → together tables ≡ together (take n tables) ++ together (drop n tables)
together-split n tables = ap together (sym (take-append-drop n tables)) ∙ together-append (take n tables) (drop n tables)

pub groups-together : (fields : List FieldShape) (m : ℕ) (tables groups : List Table) → AreGroups fields m tables groups → together groups ≡ together tables
groups-together fields m tables [] are = ap together (sym are)
groups-together fields m tables (g ∷ rest) are =
    let n = are.0 in
    ap (λ (t : Table). t ++ together rest) are.1.1.0
    ∙ ap (λ (t : Table). together (take n tables) ++ t) (groups-together fields m (drop n tables) rest are.1.1.1)
    ∙ sym (together-split n tables)

pub groups-some : (fields : List FieldShape) (m : ℕ) (tables groups : List Table) → 1 ≤ length tables → AreGroups fields m tables groups → 1 ≤ length groups
groups-some fields m tables [] some are = absurd (omega (arith, some, ap (λ (l : List Table). length l) are))
groups-some fields m tables (g ∷ rest) some are = omega arith

-- The rows of the first tables, so many or more, are those.
pub record IsFront (tables : List Table) (least : ℕ) (rows : Table) : Type 0 where
  pub count : ℕ
  pub enough : least ≤ count
  pub within : count ≤ length tables
  pub same : rows ≡ together (take count tables)

front-behind : (n i : ℕ) (tables : List Table) (t : Table) → 1 ≤ n → n ≤ length tables → IsFront (drop n tables) i t → IsFront tables (suc i) (together (take n tables) ++ t)
front-behind n i tables t some within front = record {
  count = n + front.count;
  enough = omega (arith, some, front.enough);
  within = omega (arith, within, front.within, length-drop n tables);
  same =
      ap (λ (u : Table). together (take n tables) ++ u) front.same
      ∙ sym (together-append (take n tables) (take front.count (drop n tables)))
      ∙ ap together (sym (take-add n front.count tables));
}

front-of : (fields : List FieldShape) (m : ℕ) (tables groups : List Table) → AreGroups fields m tables groups → (i : ℕ) → i ≤ length groups → IsFront tables i (together (take i groups))
front-of fields m tables groups are zero within = record { count = 0; enough = omega arith; within = omega arith; same = refl }
front-of fields m tables [] are (suc i) within = absurd (omega (arith, within))
front-of fields m tables (g ∷ rest) are (suc i) within =
    let n = are.0 in
    subst (λ (t : Table). IsFront tables (suc i) (t ++ together (take i rest))) (sym are.1.1.0)
    (front-behind n i tables (together (take i rest)) are.1.0.some are.1.0.within (front-of fields m (drop n tables) rest are.1.1.1 i (omega (arith, within))))

-- each front of groups is a front of tables
pub groups-few : (fields : List FieldShape) (m : ℕ) (tables groups : List Table) → AreGroups fields m tables groups → (i : ℕ) → i ≤ length groups
    → (j : ℕ) × (i ≤ j) × (j ≤ length tables) × (together (take i groups) ≡ together (take j tables))
groups-few fields m tables groups are i within =
    let front = front-of fields m tables groups are i within in
    (front.count, front.enough, front.within, front.same)

-- ---- neighbours

pub together-next : (n : ℕ) (tables : List Table) (k : ℕ) → 1 ≤ k → k ≤ length (drop n tables) → (together (take (n + 1) tables) ++ together (take (k - 1) (drop (n + 1) tables))) ≡ together (take n tables) ++ together (take k (drop n tables))
together-next n tables k some within =
    sym (together-append (take (n + 1) tables) (take (k - 1) (drop (n + 1) tables)))
    ∙ ap together (sym (take-add (n + 1) (k - 1) tables))
    ∙ ap (λ j. together (take j tables)) (omega (arith, some))
    ∙ ap together (take-add n k tables)
    ∙ together-append (take n tables) (take k (drop n tables))

-- two groups, one behind the other, are no one batch
apart-here : (fields : List FieldShape) (m n k : ℕ) (tables : List Table) → IsGroup fields m n tables → 1 ≤ k → k ≤ length (drop n tables)
    → is_one fields m (together (take n tables) ++ together (take k (drop n tables))) ≡ false
apart-here fields m n k tables group some within =
    ap (is_one fields m) (sym (together-next n tables k some within))
    ∙ not-one-more fields m (together (take (n + 1) tables)) (together (take (k - 1) (drop (n + 1) tables))) (group.most (omega (arith, some, within, length-drop n tables)))

next-place : (i : ℕ) → suc i + 1 ≡ suc (i + 1)
next-place i = omega arith

pub groups-apart : (fields : List FieldShape) (m : ℕ) (tables groups : List Table) → AreGroups fields m tables groups → AreApart fields m groups
groups-apart fields m tables [] are i below = absurd (omega (arith, below))
groups-apart fields m tables (g ∷ []) are i below = absurd (omega (arith, below))
groups-apart fields m tables (g ∷ h ∷ rest) are zero below =
    let n = are.0 in
    let next = are.1.1.1 in
    ap (λ (t : Table). is_one fields m (t ++ h)) are.1.1.0
    ∙ ap (λ (t : Table). is_one fields m (together (take n tables) ++ t)) next.1.1.0
    ∙ apart-here fields m n next.0 tables are.1.0 next.1.0.some next.1.0.within
groups-apart fields m tables (g ∷ h ∷ rest) are (suc i) below =
    ap (λ j. is_one fields m (get_or (h ∷ rest) i [] ++ get_or (g ∷ h ∷ rest) j [])) (next-place i)
    ∙ groups-apart fields m (drop are.0 tables) (h ∷ rest) are.1.1.1 i (omega (arith, below))

-- ---- twice

one-of : (t : Table) → together (t ∷ []) ≡ t
one-of t = append-nil t

-- a group of tables that are apart is one table
alone : (fields : List FieldShape) (m n : ℕ) (t : Table) (tables : List Table) → AreApart fields m (t ∷ tables) → IsGroup fields m n (t ∷ tables) → n ≡ 1
alone fields m n t [] apart group = omega (arith, group.some, group.within)
alone fields m n t (u ∷ tables) apart group =
    elim (cases_lt 1 n) [
      | inl more ↦ elim group.fits [ inl one ↦ one | inr fits ↦ absurd (true≢false (sym (two more fits) ∙ apart 0 (omega arith))) ]
      | inr few ↦ omega (arith, few, group.some)
    ]
  where
    two : 1 < n → is_one fields m (together (take n (t ∷ u ∷ tables))) ≡ true → is_one fields m (t ++ u) ≡ true
    two more fits =
        one-front fields m (t ++ u) (together (take (n - 2) tables))
        (ap (is_one fields m) (append_assoc t u (together (take (n - 2) tables)))
        ∙ ap (λ k. is_one fields m (together (take k (t ∷ u ∷ tables)))) (let both : suc (suc (n - 2)) ≡ n = omega (arith, more) in both)
        ∙ fits)

apart-rest : (fields : List FieldShape) (m : ℕ) (t : Table) (tables : List Table) → AreApart fields m (t ∷ tables) → AreApart fields m tables
apart-rest fields m t tables apart i below =
    ap (λ j. is_one fields m (get_or tables i [] ++ get_or (t ∷ tables) j [])) (sym (next-place i)) ∙ apart (suc i) (omega (arith, below))

pub groups-same : (fields : List FieldShape) (m : ℕ) (tables groups : List Table) → AreApart fields m tables → AreGroups fields m tables groups → groups ≡ tables
groups-same fields m tables [] apart are = sym are
groups-same fields m [] (g ∷ rest) apart are = absurd (omega (arith, are.1.0.some, are.1.0.within))
groups-same fields m (t ∷ tables) (g ∷ rest) apart are =
    let one = alone fields m are.0 t tables apart are.1.0 in
    ap (λ (h : Table). h ∷ rest) (are.1.1.0 ∙ ap (λ k. together (take k (t ∷ tables))) one ∙ one-of t)
    ∙ ap (λ (l : List Table). t ∷ l)
    (groups-same fields m tables rest (apart-rest fields m t tables apart) (subst (λ k. AreGroups fields m (drop k (t ∷ tables)) rest) one are.1.1.1))
