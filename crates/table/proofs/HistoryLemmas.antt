-- Histories that grow, and histories cut out of a table.
use Rattle.std.proofs.Common.{◌≡◌, ◌∙◌, ◌⊎◌, inl, inr, ℕ, suc, ◌+◌, ◌≤◌, List, [], ◌∷◌, ◌++◌, length, take, drop, None, ap, sym, refl, subst, arith, length-append, append_assoc}
use Rattle.std.proofs.lemmas.List.{append-nil, drop-append-le, length-drop, take-append-le, take-append-drop, take_all}
use Rattle.std.proofs.Math.Seq.{drop-append_seam, take-append_seam}
use Rattle.std.proofs.lemmas.List.Elements.{All-push}
use Rattle.std.proofs.lemmas.List.Sums.{sum_by-cons}
use Rattle.arrays.specs.Prelude.{FieldShape, Table}
use Rattle.table.specs.Prelude.{History, IsLegal, IsTableOf, book, book_rows, cause, history_from, rows}

-- ---- one more pair

pub rows-push : (h : History) (e : ℕ × Table) → rows (h ++ e ∷ []) ≡ rows h ++ e.1
rows-push [] e = append-nil e.1
rows-push (x ∷ h) e = ap (λ t. x.1 ++ t) (rows-push h e) ∙ sym (append_assoc x.1 (rows h) e.1)

-- a place in a list with one more at its end is that end, or a place of the list
place : (h before rest : History) (x e : ℕ × Table) → h ++ x ∷ [] ≡ before ++ e ∷ rest
    → ((before ≡ h) × (e ≡ x)) ⊎ ((r : History) × (h ≡ before ++ e ∷ r))
place [] [] [] x e p = inl (refl, cc)
place [] [] (r ∷ rs) x e p = absurd cc
place [] (b ∷ []) rest x e p = absurd cc
place [] (b ∷ c ∷ bs) rest x e p = absurd cc
place (y ∷ h) [] rest x e p = inr (h, cc)
place (y ∷ h) (b ∷ bs) rest x e p =
    let same : y ≡ b = cc in
    elim (place h bs rest x e cc) [
      | inl q ↦ inl (ap (λ t. b ∷ t) q.0 ∙ ap (λ z. z ∷ h) (sym same), q.1)
      | inr q ↦ inr (q.0, ap (λ t. y ∷ t) q.1 ∙ ap (λ z. z ∷ (bs ++ e ∷ q.0)) same)
    ]

pub IsLegal-push : (fields : List FieldShape) (h : History) (e : ℕ × Table) → IsLegal fields h → IsTableOf fields e.1 → cause fields h e.1 ≡ None → IsLegal fields (h ++ e ∷ [])
IsLegal-push fields h e legal shaped allowed = record {
  shaped = All-push (λ p. IsTableOf fields p.1) h e legal.shaped shaped;
  allowed =
      λ before rest x p.
      elim (place h before rest e x p) [
        | inl q ↦ subst (λ b. cause fields b x.1 ≡ None) (sym q.0) (subst (λ (y : ℕ × Table). cause fields h y.1 ≡ None) (sym q.1) allowed)
        | inr q ↦ legal.allowed before q.0 x q.1
      ];
}

-- ---- cut out of a table

no_rows : (t : Table) → 0 ≡ length t → t ≡ []
no_rows [] h = refl
no_rows (row ∷ t) h = absurd (omega (arith, h))

counted-cons : (e : ℕ × ℕ) (rest : List (ℕ × ℕ)) → book_rows (e ∷ rest) ≡ e.1 + book_rows rest
counted-cons e rest = sum_by-cons (λ (p : ℕ × ℕ). p.1) e rest

-- what the rest of a book counts is what is left of the table
left : (e : ℕ × ℕ) (rest : List (ℕ × ℕ)) (t : Table) → book_rows (e ∷ rest) ≡ length t → (e.1 ≤ length t) × (book_rows rest ≡ length (drop e.1 t))
left e rest t counts = (omega (arith, counts, counted-cons e rest), omega (arith, counts, counted-cons e rest, length-drop e.1 t))

pub rows-cut : (entries : List (ℕ × ℕ)) (t : Table) → book_rows entries ≡ length t → rows (history_from entries t) ≡ t
rows-cut [] t counts = sym (no_rows t counts)
rows-cut (e ∷ rest) t counts = ap (λ u. take e.1 t ++ u) (rows-cut rest (drop e.1 t) (left e rest t counts).1) ∙ take-append-drop e.1 t

pub length-cut : (entries : List (ℕ × ℕ)) (t : Table) → length (history_from entries t) ≡ length entries
length-cut [] t = refl
length-cut (e ∷ rest) t = ap suc (length-cut rest (drop e.1 t))

pub cut-push : (entries : List (ℕ × ℕ)) (t u : Table) (worker count : ℕ) → book_rows entries ≡ length t → count ≡ length u
    → history_from (entries ++ (worker, count) ∷ []) (t ++ u) ≡ history_from entries t ++ (worker, u) ∷ []
cut-push [] t u worker count counts size =
    ap (λ s. history_from ((worker, count) ∷ []) (s ++ u)) (no_rows t counts)
    ∙ ap (λ (s : Table). (worker, s) ∷ []) (take_all count u (omega (arith, size)))
cut-push (e ∷ rest) t u worker count counts size =
    let there = left e rest t counts in
    ap (λ (s : Table). (e.0, s) ∷ history_from (rest ++ (worker, count) ∷ []) (drop e.1 (t ++ u))) (take-append-le e.1 t u there.0)
    ∙ ap (λ (s : Table). (e.0, take e.1 t) ∷ history_from (rest ++ (worker, count) ∷ []) s) (drop-append-le e.1 t u there.0)
    ∙ ap (λ (h : History). (e.0, take e.1 t) ∷ h) (cut-push rest (drop e.1 t) u worker count there.1 size)

pub book-cut : (entries : List (ℕ × ℕ)) (t : Table) → book_rows entries ≡ length t → book (history_from entries t) ≡ entries
book-cut [] t counts = refl
book-cut (e ∷ rest) t counts =
    let there = left e rest t counts in
    ap (λ n. (e.0, n) ∷ book (history_from rest (drop e.1 t))) (length-take-le e.1 t there.0)
    ∙ ap (λ b. e ∷ b) (book-cut rest (drop e.1 t) there.1)
  where
    length-take-le : (n : ℕ) (t : Table) → n ≤ length t → length (take n t) ≡ n
    length-take-le n t within = omega (arith, within, ap length (take-append-drop n t), length-append (take n t) (drop n t), length-drop n t)

pub cut-book : (h : History) → history_from (book h) (rows h) ≡ h
cut-book [] = refl
cut-book (e ∷ h) =
    ap (λ (t : Table). (e.0, t) ∷ history_from (book h) (drop (length e.1) (e.1 ++ rows h))) (take-append_seam e.1 (rows h))
    ∙ ap (λ (t : Table). e ∷ history_from (book h) t) (drop-append_seam e.1 (rows h))
    ∙ ap (λ (g : History). e ∷ g) (cut-book h)
