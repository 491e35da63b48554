-- What all workers did, once their outcomes are taken.
use Rattle.std.proofs.Common.{◌≡◌, ◌∙◌, ap₂, ℕ, suc, ◌<◌, List, [], ◌∷◌, length, map, get_or, Option, None, sym, refl, subst, arith}
use Rattle.std.specs.List.{AllZip, cons_option}
use Rattle.std.proofs.lemmas.List.{get_or-map, length-map}
use Rattle.std.proofs.lemmas.List.Elements.{AllZip-get_or}
use Rattle.std.proofs.lemmas.Slice.Zip.{AllZip-long}
use Rattle.arrays.specs.Batch.{Batch}
use Rattle.shared.specs.Prelude.{Hand, IsLeft, Left, calls_of_hand}
use Rattle.loads.proofs.LoadLemmas.{loaded_any}
use Rattle.loads.specs.Prelude.{AllFinished, AllLoaded, AreNewest, AreRun, IsRun, Loaded, before_stop, last_receipts, outcome_of, seen_since}

-- what is left with it afterwards doesn't count
pub run_left : (files : List (List Batch)) (workers place : ℕ) (old mid new : Hand) (o : Left) (left : Option Left) → IsRun files workers place old mid o → IsLeft left mid new → IsRun files workers place old new o
run_left files workers place old mid new o left is same =
    subst (λ h. IsRun files workers place old h o)
    (λ j. record { number = sym same.number j; seen = sym same.seen j; mine = sym same.mine j; columns = sym same.columns j; left = new.left })
    (record { stopped = is.stopped; loaded = loaded_any (before_stop files workers place o.stop) old mid new.left is.loaded; last = is.last; newest = is.newest })

-- what each has seen, where the last receipts are of that
newest : (old new : List Hand) (outcomes : List Left) → length new ≡ length old → length outcomes ≡ length old
    → ((i : ℕ) (d : Hand) (o : Left) → i < length old → (get_or outcomes i o).last ≡ seen_since (calls_of_hand (get_or old i d)) (get_or new i d)) → AreNewest (last_receipts outcomes) old new
newest [] new [] kept count same = refl
newest [] new (o ∷ outcomes) kept count same = absurd (omega (arith, count))
newest (a ∷ old) [] outcomes kept count same = absurd (omega (arith, kept))
newest (a ∷ old) (b ∷ new) [] kept count same = absurd (omega (arith, count))
newest (a ∷ old) (b ∷ new) (o ∷ outcomes) kept count same =
    ap₂ cons_option (same 0 a o (omega arith)) (newest old new outcomes (omega (arith, kept)) (omega (arith, count)) (λ i d e below. same (suc i) d e (omega (arith, below))))

module _ (files : List (List Batch)) (old : List Hand) where
  pub are_run : (mid new : List Hand) → length mid ≡ length old → ((place : ℕ) (d : Hand) → place < length old → IsRun files (length old) place (get_or old place d) (get_or mid place d) (outcome_of (get_or mid place d)))
      → AllZip (IsLeft None) mid new → AreRun files old new (map outcome_of mid)
  are_run mid new size done taken =
      let left_at : (place : ℕ) (d : Hand) → place < length old → IsLeft None (get_or mid place d) (get_or new place d)
      = λ place d below. AllZip-get_or (IsLeft None) mid new place d d taken (omega (arith, below, size)) in
      record {
        count = length-map mid outcome_of ∙ size;
        kept = AllZip-long (IsLeft None) mid new taken ∙ size;
        each = λ place d o below.
            run_left files (length old) place (get_or old place d) (get_or mid place d) (get_or new place d) (get_or (map outcome_of mid) place o) None
            (subst (IsRun files (length old) place (get_or old place d) (get_or mid place d)) (sym (get_or-map outcome_of mid place d o (omega (arith, below, size)))) (done place d below))
            (left_at place d below);
        left = λ place d below. (left_at place d below).rest;
      }

  -- where nobody was stopped, the whole plan is loaded
  pub all_loaded : (new : List Hand) (outcomes : List Left) → AreRun files old new outcomes → AllFinished outcomes → AllLoaded files old new
  all_loaded new outcomes are finished = record {
    kept = are.kept;
    each = λ place d below. subst (λ p. Loaded (before_stop files (length old) place p) (get_or old place d) (get_or new place d))
        (finished place (outcome_of d) (omega (arith, below, are.count))) (are.each place d (outcome_of d) below).loaded;
    left = are.left;
  }

  -- and the last receipts are of all that was seen by those who appended
  pub all_newest : (new : List Hand) (outcomes : List Left) → AreRun files old new outcomes → AllFinished outcomes → AreNewest (last_receipts outcomes) old new
  all_newest new outcomes are finished = newest old new outcomes are.kept are.count (λ i d o below. (are.each i d o below).newest (finished i o (omega (arith, below, are.count))))
