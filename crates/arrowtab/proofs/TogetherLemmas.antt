-- What workers made of files, from what each of them shows.
use Rattle.std.proofs.Common.{◌≡◌, ◌≢◌, ◌∙◌, inl, inr, ℕ, zero, suc, ◌+◌, ◌%◌, ◌<◌, ◌≤◌, List, [], ◌∷◌, ◌++◌, Option, None, Some, IfSome, length, take, get_or, ap, sym, refl, subst, arith, length-append, zero-add}
use Rattle.std.proofs.lemmas.List.{get_or_default}
use Rattle.std.proofs.lemmas.List.Elements.{filter-append}
use Rattle.std.proofs.lemmas.List.Folds.{list_any_at}
use Rattle.std.proofs.lemmas.List.Sums.{sum_by-le}
use Rattle.std.proofs.lemmas.Option.{slice_get-get_or}
use Rattle.std.specs.Prelude.{All, ◌==◌}
use mathlib.Core.List.{IsPrefix}
use Rattle.arrays.specs.Prelude.{Batch, FieldShape, File, Table, rows_of}
use Rattle.loads.specs.Loaded.{IsStoppedAt as IsHalted}
use Rattle.loads.specs.Prelude.{AllLoaded, AreRun, Loaded, StandsAgainstLoading, StandsFor, Stop, batches_of_files, before_stop, fields_for, pairs_of, planned}
use Rattle.loads.proofs.LoadLemmas.{HasLoaded, has_loaded}
use Rattle.loads.proofs.PlanLemmas.{all_begun, by_recursion, each_planned, map_begun, order_begun, planned_front, same_test, whole_begun}
use Rattle.loads.specs.declared.fault.LoadFault.TheVariants as load
use Rattle.shared.specs.Prelude.{AllThere, AreNew, Hand, HasAllItsPairs, InOrder, IsLegalKnown, IsNew, IsWorkerOf, Known, Left, columns_of_hand, known_of}
use Rattle.shared.proofs.KnownLemmas.{legal_wide, wide_again}
use Rattle.table.proofs.FrontLemmas.{prefix_self, prefix_trans}
use Rattle.table.specs.Prelude.{Contents, History, IsLegal, IsTableOf, batch_cause, difference, of, widened}
use Rattle.table.specs.declared.refusal.Refusal.{Refusal}
use Rattle.table.specs.declared.refusal.Refusal.TheVariants as refusal
use Rattle.arrowtab.specs.Prelude.{Holds, IsGathered, IsLoaded, IsStopped, listed}
use Rattle.arrowtab.proofs.WorkedLemmas.{Fits, loaded_of, stopped_of}

nobody : Hand
nobody = record { number = 0; seen = record { fields = []; history = [] }; mine = []; columns = 0; left = None }

-- ---- one worker

new_at : (fields : List FieldShape) (first : ℕ) (hands : List Hand) (w : ℕ) → AreNew fields first hands → w < length hands → IsNew fields (first + w) (get_or hands w nobody)
new_at fields first [] w are below = absurd (omega (arith, below))
new_at fields first (h ∷ hands) zero are below = subst (λ n. IsNew fields n h) (omega arith) are.0
new_at fields first (h ∷ hands) (suc w) are below = subst (λ n. IsNew fields n (get_or hands w nobody)) (omega arith) (new_at fields (first + 1) hands w are.1 (omega (arith, below)))

-- what lies between a list of fields and itself is the same
between : (xs ys zs : List FieldShape) → xs ≡ zs → IsPrefix xs ys → IsPrefix ys zs → ys ≡ zs
between xs ys zs same one other =
    whole_begun ys zs other.0 other.1 (omega (arith, ap (λ (fs : List FieldShape). length fs) one.1, length-append xs one.0, ap (λ (fs : List FieldShape). length fs) same))

-- rows of the fields aren't widened to as many
pairs_wide : (fields : List FieldShape) (w : ℕ) (bs : List Batch) → All (λ b. IsTableOf fields (rows_of b)) bs → widened (length fields) (pairs_of w bs) ≡ pairs_of w bs
pairs_wide fields w [] all = refl
pairs_wide fields w (b ∷ bs) all =
    let one = wide_again fields (rows_of b) (all 0 b (omega arith)) in
    let rest = pairs_wide fields w bs (λ k d below. all (suc k) d (omega (arith, below))) in
    cc (one, rest)

-- Under the fields of the opening, behind which no column was added, it added these batches, which are all that the history has of it.
record Added (fields : List FieldShape) (h : History) (place : ℕ) (bs : List Batch) (w : Hand) : Type 0 where
  number : w.number ≡ place
  stay : w.seen.fields ≡ fields
  mine : w.mine ≡ pairs_of place bs
  wide : widened (length fields) w.mine ≡ w.mine
  whole : of h place ≡ pairs_of place bs
  fits : All (Fits fields) bs

added_new : (fields : List FieldShape) (k : Known) (place : ℕ) (bs : List Batch) (old new : Hand) → k.fields ≡ fields → IsNew fields place old → HasLoaded bs old new → HasAllItsPairs k new
    → Added fields k.history place bs new
added_new fields k place bs old new same was is whole =
    let opened : old.seen.fields ≡ fields = ap (λ (s : Known). s.fields) was.seen in
    let stay : new.seen.fields ≡ fields = between old.seen.fields new.seen.fields fields opened is.begun.fields (subst (λ (fs : List FieldShape). IsPrefix new.seen.fields fs) same whole.begun.fields) in
    let under : (i : ℕ) (d : Batch) → i < length bs → (Fits fields (get_or bs i d)) × IsTableOf fields (rows_of (get_or bs i d))
    = λ i d below.
    let alike = is.alike i d below in
    let one = between old.seen.fields alike.fields fields opened alike.begun (subst (λ (fs : List FieldShape). IsPrefix alike.fields fs) stay alike.ended) in
    subst (λ (fs : List FieldShape). (difference fs (get_or bs i d).fields ≡ None) × IsTableOf fs (rows_of (get_or bs i d))) one (alike.same, alike.shaped) in
    let pairs = pairs_wide fields place bs (λ i d below. (under i d below).1) in
    let mine : new.mine ≡ pairs_of place bs
    = is.mine
    ∙ ap (λ (fs : List FieldShape). widened (length fs) (old.mine ++ pairs_of old.number bs)) stay
    ∙ ap (λ (l : History). widened (length fields) (l ++ pairs_of old.number bs)) was.mine
    ∙ ap (λ n. widened (length fields) (pairs_of n bs)) was.numbered
    ∙ pairs in
    let wide : widened (length fields) new.mine ≡ new.mine = ap (widened (length fields)) mine ∙ pairs ∙ sym mine in
    record {
      number = is.number ∙ was.numbered;
      stay = stay;
      mine = mine;
      wide = wide;
      whole = ap (λ n. of k.history n) (sym (is.number ∙ was.numbered)) ∙ whole.whole ∙ ap (λ (fs : List FieldShape). widened (length fs) new.mine) same ∙ wide ∙ mine;
      fits = λ i d below. (under i d below).0;
    }

-- ---- all workers: each of those that were new loaded batches of its own

module _ (fields : List FieldShape) (old new : List Hand) (are : AreNew fields 0 old) (kept : length new ≡ length old) (bs : ℕ → List Batch)
    (loads : (w : ℕ) → w < length old → Loaded (bs w) (get_or old w nobody) (get_or new w nobody)) where
  was : (w : ℕ) → w < length old → IsNew fields w (get_or old w nobody)
  was w below = subst (λ n. IsNew fields n (get_or old w nobody)) (zero-add w) (new_at fields 0 old w are below)

  has : (w : ℕ) → w < length old → HasLoaded (bs w) (get_or old w nobody) (get_or new w nobody)
  has w below = has_loaded (bs w) (get_or old w nobody) (get_or new w nobody) (loads w below)

  there : AllThere (length old) new
  there w below =
      list_any_at (λ h. h.number == w) new w nobody (omega (arith, below, kept)) (same_test (get_or new w nobody).number w ((has w below).number ∙ (was w below).numbered))

  module _ (v : Contents) (count : ℕ) (gathered : IsGathered count fields new v) where
    -- no column was added, so the fields are those of the opening
    stay : v.fields ≡ fields
    stay =
        let none : All (λ h. h.columns ≤ 0) new
        = λ w d below.
        let inside : w < length old = omega (arith, below, kept) in
        omega (arith, ap (λ (h : Hand). h.columns) (get_or_default new w d nobody below), (has w inside).columns, (was w inside).columns) in
        sym (whole_begun fields v.fields gathered.opened.0 gathered.opened.1 (omega (arith, sum_by-le columns_of_hand 0 new none, gathered.columns)))

    added : (w : ℕ) → w < length old → Added fields v.history w (bs w) (get_or new w nobody)
    added w below =
        added_new fields (known_of v) w (bs w) (get_or old w nobody) (get_or new w nobody) stay (was w below) (has w below) (gathered.whole w nobody (omega (arith, below, kept)))

-- ---- what they loaded

holds_all : (files : List File) (fields : List FieldShape) (old new : List Hand) (v : Contents) → 1 ≤ length old → fields ≡ fields_for files → AreNew fields 0 old
    → AllLoaded (batches_of_files files) old new → IsGathered (length old) fields new v → Holds (length old) files v
holds_all files fields old new v some same are all gathered =
    let n = length old in
    let plan : ℕ → List Batch = λ w. planned (batches_of_files files) n w in
    let loads : (w : ℕ) → w < n → Loaded (plan w) (get_or old w nobody) (get_or new w nobody) = λ w below. all.each w nobody below in
    let is = stay fields old new are all.kept plan loads v n gathered in
    let own = added fields old new are all.kept plan loads v n gathered in
    record {
      fields = is ∙ same;
      loaded =
          subst (λ (fs : List FieldShape). IsLoaded n (listed files) fs v.history) same
          (loaded_of n files fields v.history
          (each_planned (Fits fields) n (batches_of_files files) some (λ w below. by_recursion (Fits fields) (plan w) (own w below).fits))
          gathered.known
          (λ w below. (own w below).whole)
          (subst (λ (fs : List FieldShape). IsLegal fs v.history) is gathered.legal));
    }

pub holds : (workers : ℕ) (files : List File) (fields : List FieldShape) (old new : List Hand) (v : Contents) → length old ≡ workers → 1 ≤ workers → fields ≡ fields_for files → AreNew fields 0 old
    → AllLoaded (batches_of_files files) old new → IsGathered workers fields new v → Holds workers files v
holds workers files fields old new v size some same are all =
    subst (λ n. IsGathered n fields new v → Holds n files v) size (holds_all files fields old new v (omega (arith, some, size)) same are all)

pub loaded_there : (files : List (List Batch)) (fields : List FieldShape) (old new : List Hand) → AreNew fields 0 old → AllLoaded files old new → AllThere (length old) new
loaded_there files fields old new are all = there fields old new are all.kept (λ w. planned files (length old) w) (λ w below. all.each w nobody below)

-- ---- what stopped one of them

-- a beginning's pairs of a worker begin that worker's
of_begun : (h k : History) (w : ℕ) → IsPrefix h k → IsPrefix (of h w) (of k w)
of_begun h k w begun = (of begun.0 w, sym (filter-append (λ e. e.0 == w) h begun.0) ∙ ap (λ (l : History). of l w) begun.1)

-- whatever stopped a worker, what it added before begins its plan
front_of : (files : List (List Batch)) (workers place : ℕ) (seen : Known) (o : Option Stop) → IfSome o (IsHalted files workers place seen)
    → IsPrefix (before_stop files workers place o) (planned files workers place)
front_of files workers place seen None is = prefix_self (planned files workers place)
front_of files workers place seen (Some s) is = planned_front s.0 s.1 workers place files is.file is.own

-- the cause that was reported is a refusal's
cause_of : (k : Known) (b : Batch) (e : Refusal) → e ≢ refusal.NoMemory → StandsFor k b e → batch_cause k.fields k.history b ≡ Some e
cause_of k b e known (inl wants) = absurd (known wants)
cause_of k b e known (inr stands) = stands

-- all that it had seen of itself is all that it added
own_whole : (fields : List FieldShape) (h : History) (place count : ℕ) (bs : List Batch) (w : Hand) → Added fields h place bs w → IsPrefix w.seen.history h → IsWorkerOf count w.seen w
    → of w.seen.history place ≡ pairs_of place bs
own_whole fields h place count bs w is begun part =
    let same : widened (length w.seen.fields) w.mine ≡ w.mine = ap (λ (fs : List FieldShape). widened (length fs) w.mine) is.stay ∙ is.wide in
    order_begun w.mine (of w.seen.history place)
    (subst (λ n. InOrder w.mine (of w.seen.history n)) is.number (subst (λ (l : History). InOrder l (of w.seen.history w.number)) same part.ordered))
    (subst (λ (l : History). IsPrefix (of w.seen.history place) l) (is.whole ∙ sym is.mine) (of_begun w.seen.history h place begun))
    ∙ is.mine

-- what it had seen begins the history
seen_begun : (fields : List FieldShape) (k : Known) (w : Hand) → k.fields ≡ fields → w.seen.fields ≡ fields → IsLegalKnown w.seen → HasAllItsPairs k w → IsPrefix w.seen.history k.history
seen_begun fields k w same stay legal whole =
    let n : length k.fields ≡ length w.seen.fields = ap (λ (fs : List FieldShape). length fs) (same ∙ sym stay) in
    subst (λ (l : History). IsPrefix l k.history) (ap (λ m. widened m w.seen.history) n ∙ legal_wide w.seen legal) whole.begun.history

module _ (files : List File) (fields : List FieldShape) (old new : List Hand) (file number : ℕ) (e : Refusal) (are : AreNew fields 0 old) where
  module _ (outcomes : List Left) (run : AreRun (batches_of_files files) old new outcomes) (d : Left) where
    abbrev all : List (List Batch)
    all = batches_of_files files

    abbrev front : ℕ → List Batch
    front w = before_stop all (length old) w (get_or outcomes w d).stop

    loads : (w : ℕ) → w < length old → Loaded (front w) (get_or old w nobody) (get_or new w nobody)
    loads w below = (run.each w nobody d below).loaded

    run_there : AllThere (length old) new
    run_there = there fields old new are run.kept front loads

    module _ (v : Contents) (gathered : IsGathered (length old) fields new v) (k count : ℕ) (inside : k < length old) (stop : (get_or outcomes k d).stop ≡ Some (file, number, e)) (known : e ≢ refusal.NoMemory)
        (part : IsWorkerOf count (get_or new k nobody).seen (get_or new k nobody)) (legal : IsLegalKnown (get_or new k nobody).seen) where
      stopped_at : IsStopped (length old) (listed files) fields file number e
      stopped_at =
          let n = length old in
          let w = get_or new k nobody in
          let own = added fields old new are run.kept front loads v n gathered in
          let same = stay fields old new are run.kept front loads v n gathered in
          let halted : IsHalted all n k w.seen (file, number, e) = subst (λ (p : Option Stop). IfSome p (IsHalted all n k w.seen)) stop (run.each k nobody d inside).stopped in
          let begun = seen_begun fields (known_of v) w same (own k inside).stay legal (gathered.whole k nobody (omega (arith, inside, run.kept))) in
          let mine : of w.seen.history k ≡ pairs_of k (planned (take file all) n k ++ take number (get_or all file []))
          = own_whole fields v.history k count (front k) w (own k inside) begun part ∙ ap (λ (p : Option Stop). pairs_of k (before_stop all n k p)) stop in
          stopped_of n files fields file number e (get_or all file []) halted.batch w.seen.history
          (slice_get-get_or all file [] halted.file) halted.there
          (all_begun (λ (p : ℕ × Table). p.0 < n) w.seen.history v.history begun gathered.known)
          (subst (λ p. of w.seen.history p ≡ pairs_of p (planned (take file all) n p ++ take number (get_or all file []))) (sym halted.own) mine)
          (λ x below other.
          prefix_trans (of w.seen.history x) (pairs_of x (front x)) (pairs_of x (planned all n x))
          (subst (λ (l : History). IsPrefix (of w.seen.history x) l) (own x below).whole (of_begun w.seen.history v.history x begun))
          (map_begun (λ (b : Batch). (x, rows_of b)) (front x) (planned all n x) (front_of all n x (get_or new x nobody).seen (get_or outcomes x d).stop (run.each x nobody d below).stopped)))
          (subst (λ (fs : List FieldShape). IsLegal fs w.seen.history) (own k inside).stay legal)
          (ap (λ (fs : List FieldShape). batch_cause fs w.seen.history halted.batch) (sym (own k inside).stay) ∙ cause_of w.seen halted.batch e known halted.stands)

  pub stopped_there : StandsAgainstLoading (load.Refused file number e) (batches_of_files files) old new → AllThere (length old) new
  stopped_there (inr none) = let wants : load.Refused file number e ≡ load.NoMemory = none.0 in absurd (cc)
  stopped_there (inl reported) = run_there reported.0 reported.1 (record { last = None; stop = None })

  stopped_all : (v : Contents) (count : ℕ) (own : Hand) → fields ≡ fields_for files → 1 ≤ length old → StandsAgainstLoading (load.Refused file number e) (batches_of_files files) old new
      → IsGathered (length old) fields new v → own ≡ get_or new (file % length old) own → IsWorkerOf count own.seen own → IsLegalKnown own.seen
      → IsStopped (length old) (listed files) (fields_for files) file number e
  stopped_all v count own same some (inr none) gathered at part legal = let wants : load.Refused file number e ≡ load.NoMemory = none.0 in absurd (cc)
  stopped_all v count own same some (inl reported) gathered at part legal =
      let run = reported.1 in
      let met = reported.2.met in
      let inside : met.0 < length old = omega (arith, run.count, met.2) in
      let stop : (get_or reported.0 met.0 met.1).stop ≡ Some (file, number, e) = ap (λ (o : Left). o.stop) met.3 ∙ met.4 in
      let halted : IsHalted (batches_of_files files) (length old) met.0 (get_or new met.0 nobody).seen (file, number, e)
      = subst (λ (p : Option Stop). IfSome p (IsHalted (batches_of_files files) (length old) met.0 (get_or new met.0 nobody).seen)) stop (run.each met.0 nobody met.1 inside).stopped in
      let is : own ≡ get_or new met.0 nobody
      = at ∙ get_or_default new (file % length old) own nobody (omega (arith, some, run.kept)) ∙ ap (λ i. get_or new i nobody) halted.own in
      subst (λ (fs : List FieldShape). IsStopped (length old) (listed files) fs file number e) same
      (stopped_at reported.0 run met.1 v gathered met.0 count inside stop reported.2.known
      (subst (λ (x : Hand). IsWorkerOf count x.seen x) is part) (subst (λ (x : Hand). IsLegalKnown x.seen) is legal))

  pub stopped : (workers : ℕ) (v : Contents) (count : ℕ) (own : Hand) → length old ≡ workers → 1 ≤ workers → fields ≡ fields_for files → StandsAgainstLoading (load.Refused file number e) (batches_of_files files) old new
      → own ≡ get_or new (file % length new) own → IsWorkerOf count own.seen own → IsLegalKnown own.seen → IsGathered workers fields new v → IsStopped workers (listed files) (fields_for files) file number e
  stopped workers v count own size some same stands at part legal =
      subst (λ n. IsGathered n fields new v → IsStopped n (listed files) (fields_for files) file number e) size
      (λ gathered. stopped_all v count own same (omega (arith, some, size)) stands gathered (at ∙ ap (λ n. get_or new (file % n) own) (long stands)) part legal)
    where
      long : StandsAgainstLoading (load.Refused file number e) (batches_of_files files) old new → length new ≡ length old
      long (inr none) = ap (λ (l : List Hand). length l) none.1
      long (inl reported) = reported.1.kept
