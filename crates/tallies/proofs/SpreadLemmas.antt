-- Things that are put into groups.
use Rattle.std.proofs.Common.{◌≡◌, ◌∙◌, ℕ, zero, suc, ◌+◌, ◌<◌, ◌≤◌, List, [], ◌∷◌, ◌++◌, length, map, take, get_or, refl, subst, sym, ap, append_assoc, arith, length-append}
use Rattle.std.specs.Prelude.{All, slice_index_or, slice_set}
use Rattle.std.proofs.lemmas.List.{append-nil, get_or-map, length-map, map-append, take_more}
use Rattle.std.proofs.lemmas.List.Elements.{All-head, All-tail}
use Rattle.arrays.specs.Prelude.{Item}
use Rattle.evaluate.specs.Prelude.{Agg}
use Rattle.tallies.specs.Prelude.{AreTallies, TallyShape, put, spread, tally_of}
use Rattle.tallies.proofs.TallyLemmas.{counts_few}

-- ---- one thing more

module _ {A : Type 0} where
  pub spread-push : (ns : List ℕ) (xs : List A) (groups : List (List A)) (n : ℕ) (x : A) → length ns ≡ length xs
      → spread (ns ++ n ∷ []) (xs ++ x ∷ []) groups ≡ put n x (spread ns xs groups)
  spread-push [] [] groups n x h = refl
  spread-push [] (y ∷ xs) groups n x h = absurd (omega (arith, h))
  spread-push (m ∷ ns) [] groups n x h = absurd (omega (arith, h))
  spread-push (m ∷ ns) (y ∷ xs) groups n x h = spread-push ns xs (put m y groups) n x (omega (arith, h))

  put-short : (n k : ℕ) (x : A) (groups : List (List A)) → length (slice_index_or (put n x groups) k []) ≤ length (slice_index_or groups k []) + 1
  put-short n k x [] = omega arith
  put-short zero zero x (g ∷ groups) = omega (arith, length-append g (x ∷ []))
  put-short zero (suc k) x (g ∷ groups) = omega arith
  put-short (suc n) zero x (g ∷ groups) = omega arith
  put-short (suc n) (suc k) x (g ∷ groups) = put-short n k x groups

  -- No group has more than it had and all that came.
  pub spread-short : (ns : List ℕ) (xs : List A) (groups : List (List A)) (k : ℕ) → length (slice_index_or (spread ns xs groups) k []) ≤ length (slice_index_or groups k []) + length ns
  spread-short [] xs groups k = omega arith
  spread-short (n ∷ ns) [] groups k = omega arith
  spread-short (n ∷ ns) (x ∷ xs) groups k = omega (arith, spread-short ns xs (put n x groups) k, put-short n k x groups)

-- ---- what is shown of them

module _ {A B : Type 0} (f : A → B) where
  put-map : (n : ℕ) (x : A) (groups : List (List A)) → map (map f) (put n x groups) ≡ put n (f x) (map (map f) groups)
  put-map n x [] = refl
  put-map zero x (g ∷ groups) = ap (λ l. l ∷ map (map f) groups) (map-append f g (x ∷ []))
  put-map (suc n) x (g ∷ groups) = ap (λ l. map f g ∷ l) (put-map n x groups)

  pub spread-map : (ns : List ℕ) (xs : List A) (groups : List (List A)) → map (map f) (spread ns xs groups) ≡ spread ns (map f xs) (map (map f) groups)
  spread-map [] xs groups = refl
  spread-map (n ∷ ns) [] groups = refl
  spread-map (n ∷ ns) (x ∷ xs) groups = spread-map ns xs (put n x groups) ∙ ap (λ l. spread ns (map f xs) l) (put-map n x groups)

-- ---- cells

taken_alike : (i : ℕ) (ns : List ℕ) (xs : List Item) → length xs ≡ length ns → length (take i ns) ≡ length (take i xs)
taken_alike zero ns xs e = refl
taken_alike (suc i) [] [] e = refl
taken_alike (suc i) [] (x ∷ xs) e = absurd (omega (arith, e))
taken_alike (suc i) (n ∷ ns) [] e = absurd (omega (arith, e))
taken_alike (suc i) (n ∷ ns) (x ∷ xs) e = ap suc (taken_alike i ns xs (omega (arith, e)))

pub length_taken : {A : Type 0} (i : ℕ) (xs : List A) → length (take i xs) ≤ i
length_taken zero xs = omega arith
length_taken (suc i) [] = omega arith
length_taken (suc i) (x ∷ xs) = omega (arith, length_taken i xs)

pub set_shown : {V W : Type 0} (f : V → W) (vs : List V) (n : ℕ) (v : V) → map f (slice_set vs n v) ≡ slice_set (map f vs) n (f v)
set_shown f [] n v = refl
set_shown f (x ∷ vs) zero v = refl
set_shown f (x ∷ vs) (suc n) v = ap (λ l. f x ∷ l) (set_shown f vs n v)

-- All things come to the only group there is.
pub spread-alone : {A : Type 0} (ns : List ℕ) (items xs : List A) → length ns ≡ length items → All (λ n. n < 1) ns → spread ns items (xs ∷ []) ≡ (xs ++ items) ∷ []
spread-alone [] [] xs same all = ap (λ l. l ∷ []) (sym (append-nil xs))
spread-alone [] (x ∷ items) xs same all = absurd (omega (arith, same))
spread-alone (n ∷ ns) [] xs same all = absurd (omega (arith, same))
spread-alone (zero ∷ ns) (x ∷ items) xs same all =
    spread-alone ns items (xs ++ x ∷ []) (omega (arith, same)) (All-tail (λ n. n < 1) zero ns all) ∙ ap (λ l. l ∷ []) (append_assoc xs (x ∷ []) items)
spread-alone (suc n ∷ ns) (x ∷ items) xs same all = absurd (omega (arith, All-head (λ n. n < 1) (suc n) ns all))

module _ {C : Type 0} (show : C → TallyShape) (a : Agg ℕ) where
  -- The cell at a place is the tally of the group there.
  pub cell_at : (cells : List C) (groups : List (List Item)) (n : ℕ) (cell : C) → AreTallies show a cells groups → n < length cells → cell ≡ get_or cells n cell
      → show cell ≡ tally_of a (slice_index_or groups n [])
  cell_at cells groups n cell h below is =
      let count : length cells ≡ length groups = sym (length-map cells show) ∙ ap length h ∙ length-map groups (tally_of a) in
      ap show is ∙ sym (get_or-map show cells n cell (show cell) below)
      ∙ ap (λ l. get_or l n (show cell)) h
      ∙ get_or-map (tally_of a) groups n [] (show cell) (omega (arith, below, count))

  pub cell_put : (cells : List C) (groups : List (List Item)) (n : ℕ) (cell new : C) (x : Item) → AreTallies show a cells groups → n < length cells → cell ≡ get_or cells n cell
      → ((xs : List Item) → show cell ≡ tally_of a xs → show new ≡ tally_of a (xs ++ x ∷ [])) → AreTallies show a (slice_set cells n new) (put n x groups)
  cell_put cells groups n cell new x h below is step =
      set_shown show cells n new
      ∙ ap (λ t. slice_set (map show cells) n t) (step (slice_index_or groups n []) (cell_at cells groups n cell h below is))
      ∙ ap (λ l. slice_set l n (tally_of a (slice_index_or groups n [] ++ x ∷ []))) h
      ∙ sym (set_shown (tally_of a) groups n (slice_index_or groups n [] ++ x ∷ []))

  -- Another item of each new row is put into its group.
  pub cells_more : (old cells next : List C) (groups : List (List Item)) (numbers : List ℕ) (items : List Item) (i : ℕ) (cell new : C) (x : Item) (n : ℕ)
      → i < length numbers → length items ≡ length numbers → n ≡ get_or numbers i 0 → x ≡ get_or items i x
      → AreTallies show a cells (spread (take i numbers) (take i items) groups) → n < length cells → cell ≡ get_or cells n cell
      → ((xs : List Item) → show cell ≡ tally_of a xs → show new ≡ tally_of a (xs ++ x ∷ [])) → next ≡ slice_set cells n new
      → AreTallies show a next (spread (take (i + 1) numbers) (take (i + 1) items) groups)
  cells_more old cells next groups numbers items i cell new x n below lengths at item h inside is step writes =
      let front = spread (take i numbers) (take i items) groups in
      let more : spread (take (i + 1) numbers) (take (i + 1) items) groups ≡ put n x front =
      ap (λ l. spread l (take (i + 1) items) groups) (take_more numbers i 0 below ∙ ap (λ m. take i numbers ++ m ∷ []) (sym at))
      ∙ ap (λ l. spread (take i numbers ++ n ∷ []) l groups) (take_more items i x (omega (arith, below, lengths)) ∙ ap (λ y. take i items ++ y ∷ []) (sym item))
      ∙ spread-push (take i numbers) (take i items) groups n x (taken_alike i numbers items lengths) in
      ap (map show) writes ∙ cell_put cells front n cell new x h inside is step ∙ ap (map (tally_of a)) (sym more)

  pub cell_few : (cells : List C) (groups : List (List Item)) (numbers : List ℕ) (items : List Item) (n : ℕ) (cell : C) (i total : ℕ)
      → AreTallies show a cells (spread (take i numbers) (take i items) groups) → n < length cells → cell ≡ get_or cells n cell
      → length (slice_index_or groups n []) + length numbers ≤ total → i < length numbers → (show cell).count < total
  cell_few cells groups numbers items n cell i total h below is bound within =
      let at = cell_at cells (spread (take i numbers) (take i items) groups) n cell h below is in
      omega (
        arith,
        ap (λ (t : TallyShape). t.count) at,
        counts_few (slice_index_or (spread (take i numbers) (take i items) groups) n []) a,
        spread-short (take i numbers) (take i items) groups n,
        length_taken i numbers,
        bound,
        within,
      )

  -- The only group, of which the only cell is the tally.
  pub record IsAlone (cells : List C) (groups : List (List Item)) (cell : C) : Type 0 where
    pub xs : List Item
    pub cells_are : cells ≡ cell ∷ []
    pub groups_are : groups ≡ xs ∷ []
    pub tally : show cell ≡ tally_of a xs

  pub alone : (cells : List C) (groups : List (List Item)) (cell : C) → length cells ≡ 1 → AreTallies show a cells groups → cell ≡ get_or cells 0 cell → IsAlone cells groups cell
  alone [] groups cell one h is = absurd (omega (arith, one))
  alone (x ∷ y ∷ cells) groups cell one h is = absurd (omega (arith, one))
  alone (x ∷ []) [] cell one h is = absurd cc
  alone (x ∷ []) (xs ∷ ys ∷ groups) cell one h is = absurd cc
  alone (x ∷ []) (xs ∷ []) cell one h is = record {
    xs = xs;
    cells_are = ap (λ c. c ∷ []) (sym is);
    groups_are = refl;
    tally = ap show is ∙ ap (λ l. get_or l 0 (show x)) h;
  }

  -- All items of the new rows come to the only group.
  pub alone_more : (cells : List C) (groups : List (List Item)) (numbers : List ℕ) (items : List Item) (cell new : C) → length cells ≡ 1 → length numbers ≡ length items
      → All (λ n. n < length cells) numbers → AreTallies show a cells groups → cell ≡ get_or cells 0 cell
      → ((xs : List Item) → show cell ≡ tally_of a xs → show new ≡ tally_of a (xs ++ items)) → AreTallies show a (slice_set cells 0 new) (spread numbers items groups)
  alone_more cells groups numbers items cell new one same inside h is step =
      let only = alone cells groups cell one h is in
      let below : All (λ n. n < 1) numbers = subst (λ m. All (λ n. n < m) numbers) one inside in
      ap (λ l. map show (slice_set l 0 new)) only.cells_are ∙ ap (λ t. t ∷ []) (step only.xs only.tally)
      ∙ sym (ap (map (tally_of a)) (ap (spread numbers items) only.groups_are ∙ spread-alone numbers items only.xs same below))

  pub alone_few : (cells : List C) (groups : List (List Item)) (cell : C) (n total : ℕ) → length cells ≡ 1 → AreTallies show a cells groups → cell ≡ get_or cells 0 cell
      → All (λ xs. length xs + n ≤ total) groups → (xs : List Item) × (show cell ≡ tally_of a xs) × (length xs + n ≤ total)
  alone_few cells groups cell n total one h is few =
      let only = alone cells groups cell one h is in (
        only.xs,
        only.tally,
        All-head (λ (xs : List Item). length xs + n ≤ total) only.xs [] (subst (All (λ (xs : List Item). length xs + n ≤ total)) only.groups_are few),
      )
