-- A column recoded slot by slot.
use Rattle.std.proofs.Common.{◌≡◌, ◌∙◌, ℕ, ◌+◌, pos, true, false, List, [], ◌∷◌, ◌++◌, take, drop, map, Option, Some, option_map, sym, ap, append_assoc}
use Rattle.std.specs.Prelude.{slice_get, Result, Ok, Err, IfErr, IsErrAnd, ◌⊎◌}
use Rattle.std.proofs.Common.{inl, inr}
use mathlib.Core.List.{IsPrefix}
use Rattle.pool.specs.declared.fault.PoolFault.{PoolFault}
use Rattle.pool.specs.declared.fault.PoolFault.TheVariants.{TextsFull, NoMemory}
use Rattle.std.proofs.lemmas.List.{append-nil, map-append, take-append-drop, take_more}
use Rattle.std.proofs.lemmas.List.Elements.{filter_map-append}
use Rattle.std.proofs.lemmas.Option.{slice_get_within, get_or_from_slice_get}
use Rattle.arrays.specs.Prelude.{Column, Item, int32, item_of, text}
use Rattle.pool.specs.Prelude.{IsPlaced, code_item, firsts, is_once, is_too_full, text_of, texts_of, with_item, with_text}
use Rattle.pool.proofs.TextLemmas.{beyond, firsts-append, firsts-push, firsts-once, is_too_full-append}
use Rattle.pool.proofs.PlacingLemmas.{code-append}

-- What the texts of the first slots leave in the pool, and their codes among the texts of all.
pub record Recoded (old : List (List ℕ)) (items : List Item) (i : ℕ) (pool : List (List ℕ)) (column : Column) : Type 0 where
  pub pool_is : pool ≡ firsts (old ++ texts_of (take i items))
  pub fits : is_too_full pool ≡ false
  pub codes_are : column.items ≡ map (code_item (firsts (old ++ texts_of items))) (take i items)
  pub of_type : column.ty ≡ int32

module _ (old : List (List ℕ)) (items : List Item) where
  -- The texts that the slots from i on add.
  abbrev rest_from : ℕ → List (List ℕ)
  rest_from i = beyond (old ++ texts_of (take i items)) (firsts (texts_of (drop i items)))

  pub grown : (i : ℕ) → firsts (old ++ texts_of items) ≡ firsts (old ++ texts_of (take i items)) ++ rest_from i
  grown i =
      ap (λ l. firsts (old ++ l)) (ap texts_of (sym (take-append-drop i items)) ∙ filter_map-append text_of (take i items) (drop i items))
      ∙ ap firsts (sym (append_assoc old (texts_of (take i items)) (texts_of (drop i items))))
      ∙ firsts-append (old ++ texts_of (take i items)) (texts_of (drop i items))

  take-item : (i : ℕ) (x : Item) → slice_get items i ≡ Some x → take (i + 1) items ≡ take i items ++ x ∷ []
  take-item i x at =
      take_more items i x (slice_get_within items i x at) ∙ ap (λ y. take i items ++ y ∷ []) (get_or_from_slice_get items i x x at)

  texts-item : (i : ℕ) (x : Item) → slice_get items i ≡ Some x → old ++ texts_of (take (i + 1) items) ≡ old ++ texts_of (take i items) ++ texts_of (x ∷ [])
  texts-item i x at =
      ap (λ l. old ++ texts_of l) (take-item i x at) ∙ ap (λ l. old ++ l) (filter_map-append text_of (take i items) (x ∷ []))
      ∙ sym (append_assoc old (texts_of (take i items)) (texts_of (x ∷ [])))

  pub pool-item : (i : ℕ) (x : Item) (pool : List (List ℕ)) → slice_get items i ≡ Some x → pool ≡ firsts (old ++ texts_of (take i items))
      → with_item pool x ≡ firsts (old ++ texts_of (take (i + 1) items))
  pool-item i (text t) pool at is =
      ap (λ l. with_text l t) is ∙ sym (firsts-push (old ++ texts_of (take i items)) t) ∙ ap firsts (sym (texts-item i (text t) at))
  pool-item i x pool at is = is ∙ ap firsts (sym (append-nil (old ++ texts_of (take i items))) ∙ sym (texts-item i x at))

  codes-item : (i : ℕ) (x code : Item) (codes more : List Item) → slice_get items i ≡ Some x → code_item (firsts (old ++ texts_of items)) x ≡ code
      → codes ≡ map (code_item (firsts (old ++ texts_of items))) (take i items) → more ≡ codes ++ code ∷ []
      → more ≡ map (code_item (firsts (old ++ texts_of items))) (take (i + 1) items)
  codes-item i x code codes more at is are pushed =
      let f = code_item (firsts (old ++ texts_of items)) in
      pushed ∙ ap (λ l. l ++ code ∷ []) are ∙ ap (λ c. map f (take i items) ++ c ∷ []) (sym is)
      ∙ sym (map-append f (take i items) (x ∷ [])) ∙ ap (map f) (sym (take-item i x at))

  pub Recoded-none : (column : Column) (i : ℕ) → i ≡ 0 → is_once old ≡ true → is_too_full old ≡ false → column.ty ≡ int32 → column.items ≡ [] → Recoded old items i old column
  Recoded-none column i start once fits ty none = record {
    pool_is = sym (ap (λ i. firsts (old ++ texts_of (take i items))) start ∙ ap firsts (append-nil old) ∙ firsts-once old once);
    fits = fits;
    codes_are = none ∙ sym (ap (λ i. map (code_item (firsts (old ++ texts_of items))) (take i items)) start);
    of_type = ty;
  }

  pub Recoded-item : (i : ℕ) (x : Item) (place : Option ℕ) (pool wider : List (List ℕ)) (before after : Column) → Recoded old items i pool before
      → slice_get items i ≡ Some x → IsPlaced pool wider x place → is_too_full wider ≡ false
      → after.ty ≡ before.ty → after.items ≡ before.items ++ item_of (option_map pos place) ∷ [] → Recoded old items (i + 1) wider after
  Recoded-item i x place pool wider before after is at placed fits ty pushed =
      let now : wider ≡ firsts (old ++ texts_of (take (i + 1) items)) = placed.texts ∙ pool-item i x pool at is.pool_is in
      let end : firsts (old ++ texts_of items) ≡ wider ++ rest_from (i + 1) = grown (i + 1) ∙ ap (λ l. l ++ rest_from (i + 1)) (sym now) in
      let code : code_item (firsts (old ++ texts_of items)) x ≡ item_of (option_map pos place) =
      ap (λ l. code_item l x) end ∙ code-append pool wider (rest_from (i + 1)) x placed.texts ∙ sym placed.code in
      record {
        pool_is = now;
        fits = fits;
        codes_are = codes-item i x (item_of (option_map pos place)) before.items after.items at code is.codes_are pushed;
        of_type = ty ∙ is.of_type;
      }

  -- A text that is one too many is so among all.
  pub full_in_all : (i : ℕ) (x : Item) (pool : List (List ℕ)) → slice_get items i ≡ Some x → pool ≡ firsts (old ++ texts_of (take i items))
      → is_too_full (with_item pool x) ≡ true → is_too_full (firsts (old ++ texts_of items)) ≡ true
  full_in_all i x pool at is full =
      ap is_too_full (grown (i + 1)) ∙ is_too_full-append (firsts (old ++ texts_of (take (i + 1) items))) (rest_from (i + 1))
      (ap is_too_full (sym (pool-item i x pool at is)) ∙ full)

-- The pool as it was comes first.
pub begins_as_before : (old seen pool : List (List ℕ)) → is_once old ≡ true → pool ≡ firsts (old ++ seen) → IsPrefix old pool
begins_as_before old seen pool once is =
    (beyond old (firsts seen), sym (is ∙ firsts-append old seen ∙ ap (λ l. l ++ beyond old (firsts seen)) (firsts-once old once)))

-- A fault of one text, reported of all.
pub reported_of_all : {T : Type 0} (r : Result T PoolFault) (e : PoolFault) (one all : List (List ℕ)) → IsErrAnd r (λ x. x ≡ e)
    → ((e ≡ TextsFull) × (is_too_full one ≡ true)) ⊎ (e ≡ NoMemory) → (is_too_full one ≡ true → is_too_full all ≡ true)
    → IfErr r (λ e. ((e ≡ TextsFull) × (is_too_full all ≡ true)) ⊎ (e ≡ NoMemory))
reported_of_all (Ok v) e one all same reported grows = tt
reported_of_all (Err x) e one all same reported grows = elim reported [ inl h ↦ inl (same ∙ h.0, grows h.1) | inr h ↦ inr (same ∙ h) ]
