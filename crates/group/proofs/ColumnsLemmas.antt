-- Statistics of columns side by side, one column more.
use Rattle.std.proofs.Common.{◌≡◌, ◌∙◌, ℕ, suc, zero, ◌+◌, ◌<◌, List, [], ◌∷◌, ◌++◌, length, get_or, take, ap, sym, refl, subst, arith}
use Rattle.std.specs.List.{AllZip, zip}
use Rattle.std.proofs.lemmas.List.{take_more}
use Rattle.std.proofs.lemmas.Slice.Zip.{get_or-zip, length-zip}
use Rattle.group.specs.declared.stats.ColumnStats.{ColumnStats}
use Rattle.group.specs.StatsOfColumns.{AreJoined, Joins}

pub all_zip-push : {A B : Type 0} (R : A → B → Type 0) (xs : List A) (ys : List B) (x : A) (y : B) → AllZip R xs ys → R x y → AllZip R (xs ++ x ∷ []) (ys ++ y ∷ [])
all_zip-push R [] [] x y all one = (one, tt)
all_zip-push R [] (b ∷ ys) x y all one = absurd all
all_zip-push R (a ∷ xs) [] x y all one = absurd all
all_zip-push R (a ∷ xs) (b ∷ ys) x y all one = (all.0, all_zip-push R xs ys x y all.1 one)

-- a list beside another of which one more item was read
pub all_zip-more : {A B : Type 0} (R : A → B → Type 0) (xs : List A) (ys zs : List B) (i : ℕ) (x : A) (y : B) → i < length xs → x ≡ get_or xs i x → zs ≡ ys ++ y ∷ []
    → AllZip R (take i xs) ys → R x y → AllZip R (take (i + 1) xs) zs
all_zip-more R xs ys zs i x y below is pushed all one =
    subst (AllZip R (take (i + 1) xs)) (sym pushed)
    (subst (λ l. AllZip R l (ys ++ y ∷ [])) (sym (take_more xs i x below ∙ ap (λ a. take i xs ++ a ∷ []) (sym is)))
    (all_zip-push R (take i xs) ys x y all one))

zip-take : {A B : Type 0} (n : ℕ) (xs : List A) (ys : List B) → take n (zip xs ys) ≡ zip (take n xs) (take n ys)
zip-take zero xs ys = refl
zip-take (suc n) [] ys = refl
zip-take (suc n) (x ∷ xs) [] = refl
zip-take (suc n) (x ∷ xs) (y ∷ ys) = ap (λ l. (x, y) ∷ l) (zip-take n xs ys)

pub joined-more : (stats others all new : List ColumnStats) (k : ℕ) (a b s : ColumnStats) → k < length stats → length others ≡ length stats → a ≡ get_or stats k a → b ≡ get_or others k b
    → new ≡ all ++ s ∷ [] → AreJoined (take k stats) (take k others) all → Joins a b s → AreJoined (take (k + 1) stats) (take (k + 1) others) new
joined-more stats others all new k a b s below same here there pushed so_far one =
    let R : ColumnStats × ColumnStats → ColumnStats → Type 0 = λ p q. Joins p.0 p.1 q in
    let at : ◌≡◌ {A = ColumnStats × ColumnStats} (a, b) (get_or (zip stats others) k (a, b)) =
    ap (λ (x : ColumnStats). (x, b)) here ∙ ap (λ (y : ColumnStats). (get_or stats k a, y)) there ∙ sym (get_or-zip stats others k (a, b) below (omega (arith, below, same))) in
    subst (λ ps. AllZip R ps new) (zip-take (k + 1) stats others)
    (all_zip-more R (zip stats others) all new k (a, b) s (omega (arith, below, same, length-zip stats others)) at pushed
    (subst (λ ps. AllZip R ps all) (sym (zip-take k stats others)) so_far) one)
