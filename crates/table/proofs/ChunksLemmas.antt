-- A list in chunks.
use Rattle.std.proofs.Common.{◌≡◌, ◌∙◌, ◌⊎◌, inl, inr, ℕ, ◌+◌, ◌-◌, ◌*◌, ◌/◌, ◌%◌, ◌<◌, ◌≤◌, List, [], ◌∷◌, ◌++◌, length, map, take, All, Some, ap, append_assoc, subst, sym, refl, arith}
use Rattle.std.specs.Prelude.{slice_get}
use Rattle.std.specs.Arc.{arc_value}
use Rattle.std.specs.List.{AllZip, flat_map}
use Rattle.std.specs.declared.alloc.Global.{Global}
use Rattle.std.specs.declared.sync.Arc.{Arc}
use Rattle.std.specs.declared.vec.Vec.{Vec}
use Rattle.std.proofs.Math.ListN.{get_or, get_or-map}
use Rattle.std.proofs.lemmas.List.{append-nil, get_or_append_left, get_or-append_right, length-append, length-map, length-take-le, map-append}
use Rattle.std.proofs.lemmas.List.Concat.{flat_map-append, flat_map-cons, get_or-flat_map}
use Rattle.std.proofs.lemmas.List.Elements.{All-head, All-push, All-same, All-tail, All-take, length_all_zip}
use Rattle.std.proofs.lemmas.Option.{slice_get-get_or}
use Rattle.table.specs.Chunks.{AreChunks, AreCopies, chunk_values}

module _ (T : Type 0) where
  abbrev Chunk : Type 0
  Chunk = Vec T Global

  abbrev IsFull : Chunk → Type 0
  IsFull v = length v.items ≡ 128

  abbrev joined : List Chunk → List T
  joined chunks = flat_map (λ (v : Chunk). v.items) chunks

  length-joined : (chunks : List Chunk) → All IsFull chunks → length (joined chunks) ≡ 128 * length chunks
  length-joined [] full = refl
  length-joined (v ∷ chunks) full =
      omega (
        arith,
        ap (λ (l : List T). length l) (flat_map-cons (λ (x : Chunk). x.items) v chunks),
        length-append v.items (joined chunks),
        All-head IsFull v chunks full,
        length-joined chunks (All-tail IsFull v chunks full),
      )

-- ---- one value

module _ (T : Type 0) (shared : List (Arc (Vec T Global) Global)) (last : List T) (len : ℕ) (is : AreChunks (map arc_value shared) last len) (shown : List T) (view_is : chunk_values (map arc_value shared) last ≡ shown) (i : ℕ) (within : i < length shown) where
  abbrev chunks : List (Vec T Global)
  chunks = map arc_value shared

  below : i < length (chunk_values chunks last)
  below = omega (arith, within, ap (λ (l : List T). length l) view_is)

  count : length chunks ≡ length shared
  count = length-map shared (λ (c : Arc (Vec T Global) Global). arc_value c)

  long : length (joined T chunks) ≡ 128 * length shared
  long = omega (arith, length-joined T chunks is.chunks, count)

  many : length (chunk_values chunks last) ≡ length (joined T chunks) + length last
  many = length-append (joined T chunks) last

  -- the value at the place is the list's
  value-at : (x : T) → get_or (chunk_values chunks last) i x ≡ x → slice_get shown i ≡ Some x
  value-at x at = ap (λ (l : List T). slice_get l i) (sym view_is) ∙ slice_get-get_or (chunk_values chunks last) i x below ∙ ap Some at

  -- where it lies in a full chunk
  module _ (c : Arc (Vec T Global) Global) (at : i / 128 < length shared) (there : c ≡ get_or shared (i / 128) c) where
    same : get_or chunks (i / 128) (arc_value c) ≡ arc_value c
    same = get_or-map (λ (x : Arc (Vec T Global) Global). arc_value x) shared (i / 128) c ∙ ap arc_value (sym there)

    pub chunk-full : length (arc_value c).items ≡ 128
    chunk-full = ap (λ (v : Vec T Global). length v.items) (sym same) ∙ is.chunks (i / 128) (arc_value c) (omega (arith, at, count))

    before : length (joined T (take (i / 128) chunks)) ≡ 128 * (i / 128)
    before =
        length-joined T (take (i / 128) chunks) (All-take (IsFull T) (i / 128) chunks is.chunks)
        ∙ ap (λ n. 128 * n) (length-take-le (i / 128) chunks (omega (arith, at, count)))

    pub in-chunk : (x : T) → x ≡ get_or (arc_value c).items (i % 128) x → slice_get shown i ≡ Some x
    in-chunk x found =
        let inside : i < length (joined T chunks) = omega (arith, long, at) in
        let placed : i ≡ length (joined T (take (i / 128) chunks)) + i % 128 = omega (arith, before) in
        let short : i % 128 < length (get_or chunks (i / 128) (arc_value c)).items = omega (arith, chunk-full, ap (λ (v : Vec T Global). length v.items) same) in
        value-at x
        (get_or_append_left (joined T chunks) last x i inside
        ∙ ap (λ n. get_or (joined T chunks) n x) placed
        ∙ get_or-flat_map (λ (v : Vec T Global). v.items) chunks (i / 128) (i % 128) (arc_value c) x (omega (arith, at, count)) short
        ∙ ap (λ (v : Vec T Global). get_or v.items (i % 128) x) same
        ∙ sym found)

  -- where it lies behind them
  module _ (past : length shared ≤ i / 128) where
    place : i - length (joined T chunks) ≡ i % 128
    place = omega (arith, past, long, many, below, is.fewer)

    pub last-long : i % 128 < length last
    last-long = omega (arith, past, long, many, below, is.fewer)

    pub in-last : (x : T) → x ≡ get_or last (i % 128) x → slice_get shown i ≡ Some x
    in-last x found =
        value-at x
        (get_or-append_right (joined T chunks) last (length (joined T chunks)) i x refl (omega (arith, past, long))
        ∙ ap (λ n. get_or last n x) place
        ∙ sym found)

-- ---- copies

module _ (T : Type 0) (clones : T → T → Type 0) where
  abbrev IsCopy : T → T → Type 0
  IsCopy x y = (y ≡ x) ⊎ clones x y

  copies-behind : (front xs ys : List T) → AreCopies clones xs ys → AreCopies clones (front ++ xs) (front ++ ys)
  copies-behind [] xs ys are = are
  copies-behind (x ∷ front) xs ys are = (inl refl, copies-behind front xs ys are)

  -- a copy of the last values, and one behind them
  module _ (full : List (Vec T Global)) (last shown : List T) (value : T) (view_is : chunk_values full last ≡ shown) (new : List T) (are : AreCopies clones (last ++ value ∷ []) new) where
    pub copies-last : (others : List (Vec T Global)) → others ≡ full → AreCopies clones (shown ++ value ∷ []) (chunk_values others new)
    copies-last others same =
        subst (λ (l : List (Vec T Global)). AreCopies clones (shown ++ value ∷ []) (chunk_values l new)) (sym same)
        (subst (λ (l : List T). AreCopies clones (l ++ value ∷ []) (chunk_values full new)) view_is
        (subst (λ (l : List T). AreCopies clones l (chunk_values full new)) (sym (append_assoc (joined T full) last (value ∷ [])))
        (copies-behind (joined T full) (last ++ value ∷ []) new are)))

    length-new : length new ≡ length last + 1
    length-new = omega (arith, length_all_zip IsCopy (last ++ value ∷ []) new are, length-append last (value ∷ []))

    -- where they are a full chunk
    module _ (v : Vec T Global) (closed : v.items ≡ new) (others : List (Vec T Global)) (pushed : others ≡ full ++ v ∷ []) (behind : List T) (none : behind ≡ []) where
      values-pushed : chunk_values others behind ≡ chunk_values full new
      values-pushed =
          ap (λ (l : List T). joined T others ++ l) none
          ∙ append-nil (joined T others)
          ∙ ap (joined T) pushed
          ∙ flat_map-append (λ (x : Vec T Global). x.items) full (v ∷ [])
          ∙ ap (λ (l : List T). joined T full ++ l) (append-nil v.items ∙ closed)

      pub copies-full : AreCopies clones (shown ++ value ∷ []) (chunk_values others behind)
      copies-full = subst (λ (l : List T). AreCopies clones (shown ++ value ∷ []) l) (sym values-pushed) (copies-last full refl)

      pub chunks-full : (len : ℕ) → AreChunks full last len → 128 ≤ length new → AreChunks others behind (len + 1)
      chunks-full len is many = record {
        chunks = All-same (IsFull T) others (full ++ v ∷ []) pushed (All-push (IsFull T) full v is.chunks (ap (λ (l : List T). length l) closed ∙ omega (arith, length-new, is.fewer, many)));
        fewer = omega (arith, ap (λ (l : List T). length l) none);
        count = omega (arith, ap (λ (l : List T). length l) values-pushed, length-append (joined T full) new, length-append (joined T full) last, length-new, is.count);
      }

-- ---- what is shown of a copy

-- where each of two stands for the same, the lists do
pub images-same : {A B : Type 0} (R : A → A → Type 0) (f : A → B) → ((x y : A) → R x y → f y ≡ f x) → (xs ys : List A) → AllZip R xs ys → map f ys ≡ map f xs
images-same R f each [] [] all = refl
images-same R f each [] (y ∷ ys) all = absurd all
images-same R f each (x ∷ xs) [] all = absurd all
images-same R f each (x ∷ xs) (y ∷ ys) all = λ i. each x y all.0 i ∷ images-same R f each xs ys all.1 i

pub copies-same : {A B : Type 0} (clones : A → A → Type 0) (f : A → B) → ((x y : A) → clones x y → f y ≡ f x) → (xs ys : List A) → AreCopies clones xs ys → map f ys ≡ map f xs
copies-same {A} clones f each xs ys are =
    images-same (λ x y. (y ≡ x) ⊎ clones x y) f
    (λ (x y : A) is. elim is [
      | inl e ↦ ap f e
      | inr k ↦ each x y k
    ]) xs ys are

-- one value behind copies
pub copies-pushed : {A B : Type 0} (clones : A → A → Type 0) (f : A → B) → ((x y : A) → clones x y → f y ≡ f x) → (xs ys : List A) (x : A) → AreCopies clones (xs ++ x ∷ []) ys → map f ys ≡ map f xs ++ f x ∷ []
copies-pushed clones f each xs ys x are = copies-same clones f each (xs ++ x ∷ []) ys are ∙ map-append f xs (x ∷ [])
