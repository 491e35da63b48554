-- What stands of each answer that is there, and what readers are shown next.
use Rattle.std.proofs.Common.{◌≡◌, ◌∙◌, ◌⊎◌, inl, inr, ℕ, ◌+◌, ◌≤◌, ◌^◌, List, ◌∷◌, ◌++◌, [], refl, Bool, true, false, Option, Some, None, IfSome, IfErr, IfOk, OnErr, OnOk, Result, Ok, Err, ap, length, length-append, sym, subst, arith}
use Rattle.std.specs.Prelude.{MatchBool, is_some, option_map}
use Rattle.std.specs.Bool.{then_some}
use Rattle.std.specs.Result.{MatchResult, result_ok}
use Rattle.std.proofs.lemmas.Bool.Decides.{nat_tests}
use Rattle.arrays.specs.Prelude.{Batch, FieldShape, first, rows_of}
use Rattle.shared.specs.Prelude.{Hand, HasAdded, HasAddedNothing, HasSeen, HasWidened, IsBeginning, IsLegalKnown, IsOfWorkers, IsRaised, Known, ShowsKnown, calls_of_hand, having_added, having_counted, having_seen, known_of, rows_of_hand, with_column}
use Rattle.shared.proofs.BalanceLemmas.{rows_pushed, rows_widened}
use Rattle.table.specs.Prelude.{Contents, History, IsCompacted, IsLegal, admitted, batch_cause, difference, is_book_full, is_table_full, null_cause, rows, texts_cause, widened, with_last_field}
use Rattle.table.specs.declared.refusal.Refusal.{Refusal}
use Rattle.table.specs.declared.refusal.Refusal.TheVariants.{BookFull, SchemaDiffers, TableFull}
use Rattle.arrays.proofs.BatchLemmas.{length-rows_of}
use Rattle.table.proofs.WidenedLemmas.{length-widened, widened-again}

pub ok_each : {A E : Type 0} {P Q : A → Type 0} (r : Result A E) → ((x : A) → P x → Q x) → IfOk r P → IfOk r Q
ok_each (Ok x) f is = f x is
ok_each (Err e) f is = tt

-- the same where something stands besides
pub ok_with : {A E P : Type 0} {Q S : A → Type 0} (r : Result A E) → ((x : A) → P → Q x → S x) → OnOk r P → IfOk r Q → IfOk r S
ok_with (Ok x) f also is = f x also is
ok_with (Err e) f also is = tt

pub err_each : {A E : Type 0} {P Q : E → Type 0} (r : Result A E) → ((e : E) → P e → Q e) → IfErr r P → IfErr r Q
err_each (Ok x) f is = tt
err_each (Err e) f is = f e is

pub some_each : {A : Type 0} {P Q : A → Type 0} (o : Option A) → ((x : A) → P x → Q x) → IfSome o P → IfSome o Q
some_each None f is = tt
some_each (Some x) f is = f x is

-- where anybody shows versions, the next one is there, and it is the state's
pub shown_next : {P V : Type 0} (shows : P → Contents → Type 0) (value : V → Contents) (next : Option V) (publisher : Option P) (state : Contents) → is_some next ≡ is_some publisher
    → IfSome next (λ v. value v ≡ state) → IfSome next (λ v. IfSome publisher (λ p. shows p (value v))) → IfSome publisher (λ p. shows p state)
shown_next shows value None None state same is shown = tt
shown_next shows value None (Some p) state same is shown = absurd (cc same)
shown_next shows value (Some v) None state same is shown = tt
shown_next shows value (Some v) (Some p) state same is shown = subst (shows p) is shown

-- the next one is there where it's made if anybody shows versions
pub some_then : {A : Type 0} (b : Bool) (x : A) → is_some (then_some b x) ≡ b
some_then true x = refl
some_then false x = refl

pub then_each : {V : Type 0} (value : V → Contents) (b : Bool) (next : Option V) (version : V) (state : Contents) → next ≡ then_some b version → value version ≡ state
    → IfSome next (λ v. value v ≡ state)
then_each value true next version state made is = subst (λ o. IfSome o (λ v. value v ≡ state)) (sym made) is
then_each value false next version state made is = subst (λ o. IfSome o (λ v. value v ≡ state)) (sym made) tt

-- a copy that is kept where it was made is the state's
pub copy_kept : {V E : Type 0} (value : V → Contents) (Q : E → Type 0) (copy : Result V E) (kept : Option V) (version : V) (state : Contents)
    → MatchResult copy (λ v. value v ≡ value version) Q → kept ≡ result_ok copy → value version ≡ state → IfSome kept (λ v. value v ≡ state)
copy_kept value Q (Ok v) kept version state same made is = subst (λ o. IfSome o (λ v. value v ≡ state)) (sym made) (same ∙ is)
copy_kept value Q (Err e) kept version state same made is = subst (λ o. IfSome o (λ v. value v ≡ state)) (sym made) tt

not_full : (d n : Option Refusal) (full : Bool) (book texts : Option Refusal) → first (d ∷ first (n ∷ then_some full TableFull ∷ book ∷ texts ∷ []) ∷ []) ≡ None → full ≡ false
not_full (Some d) n full book texts none = absurd (cc none)
not_full None (Some n) full book texts none = absurd (cc none)
not_full None None true book texts none = absurd (cc none)
not_full None None false book texts none = refl

-- a batch that nothing stood against has room
pub room : (fields : List FieldShape) (h : History) (b : Batch) → batch_cause fields h b ≡ None → length (rows h) + b.rows ≤ 2 ^ 40
room fields h b none =
    let few : is_table_full h (rows_of b) ≡ false =
    not_full (option_map (λ c. SchemaDiffers c) (difference fields b.fields)) (null_cause fields (rows_of b)) (is_table_full h (rows_of b)) (then_some (is_book_full h) BookFull) (texts_cause fields h (rows_of b)) none in
    let size = length-rows_of b in
    grind (arith, nat_tests, few, size)

pub ok_all : {A E P Q : Type 0} (r : Result A E) → (P → Q) → OnOk r P → OnOk r Q
ok_all (Ok x) f is = f is
ok_all (Err e) f is = tt

-- of two the first, where the second can't be
pub true_of : {P Q : Type 0} (b : Bool) → (Q → ⊥) → MatchBool b P Q → P
true_of true never is = is
true_of false never is = absurd (never is)

pub err_all : {A E P Q : Type 0} (r : Result A E) → (P → Q) → OnErr r P → OnErr r Q
err_all (Ok x) f is = tt
err_all (Err e) f is = f is

-- nothing else is known of a table whose batches were joined
pub known_joined : (max_rows : ℕ) (before after : Contents) → IsCompacted max_rows before after → known_of after ≡ known_of before
known_joined max_rows before after is =
    ap (λ (fs : List FieldShape). record { fields = fs; history = after.history }) is.fields
    ∙ ap (λ (h : History). record { fields = before.fields; history = h }) is.history

-- it shows what is known as before
pub shows_joined : (count max_rows : ℕ) (k : Known) (before after : Contents) → IsCompacted max_rows before after → ShowsKnown count k before → ShowsKnown count k after
shows_joined count max_rows k before after joined is =
    record { known = is.known ∙ sym (known_joined max_rows before after joined); workers = subst (IsOfWorkers count) (sym joined.history) is.workers }

-- a worker that saw what begins with what it had seen
pub seen : (k : Known) (old new : Hand) → IsBeginning old.seen k → IsLegalKnown k → new ≡ having_seen k old → HasSeen old new
seen k old new begun legal is = subst (HasSeen old) (sym is) (record { number = refl; begun = begun; legal = legal; mine = refl; columns = refl; left = refl })

-- it appended nothing more
pub seen_kept : (old new : Hand) → HasSeen old new → HasAddedNothing old new
seen_kept old new is =
    let n = length new.seen.fields in
    record {
      number = is.number;
      calls = ap (λ (h : History). length h) is.mine ∙ length-widened n old.mine;
      rows = ap (λ (h : History). length (rows h)) is.mine ∙ rows_widened n old.mine;
      columns = is.columns;
      left = is.left;
    }

-- a worker that added a batch has one call more, and the batch's rows
pub added_raised : (b : Batch) (old new : Hand) → HasAdded b old new → IsRaised b.rows old new
added_raised b old new is =
    let n = length is.before.fields in
    record {
      number = is.number;
      calls = ap (λ (h : History). length h) is.mine
          ∙ length-append (widened n old.mine) ((old.number, rows_of b) ∷ [])
          ∙ ap (λ m. m + 1) (length-widened n old.mine);
      rows = rows_pushed (widened n old.mine) new.mine old.number b is.mine ∙ ap (λ m. m + b.rows) (rows_widened n old.mine);
      columns = is.columns;
      left = is.left;
    }

-- what is known of a table with the batch is what the worker that added it then has seen
pub seen_added : (k : Known) (s next : Contents) (b ready : Batch) (number : ℕ) (mid : Hand) → k ≡ known_of s → mid.seen ≡ k → number ≡ mid.number → ready ≡ b → next ≡ admitted s number ready
    → known_of next ≡ (having_added (rows_of b) mid).seen
seen_added k s next b ready number mid known mid_is numbered same next_is =
    ap known_of next_is
    ∙ ap (λ m. record { fields = s.fields; history = s.history ++ (m, rows_of ready) ∷ [] }) numbered
    ∙ ap (λ (x : Batch). record { fields = s.fields; history = s.history ++ (mid.number, rows_of x) ∷ [] }) same
    ∙ ap (λ (i : Known). record { fields = i.fields; history = i.history ++ (mid.number, rows_of b) ∷ [] }) (sym known ∙ sym mid_is)

-- a worker has added the batch that the table admitted behind all that the worker then saw
pub added : (k : Known) (s next : Contents) (b ready : Batch) (number : ℕ) (old mid new : Hand) → ready ≡ b → number ≡ mid.number → k ≡ known_of s → IsBeginning old.seen k → mid ≡ having_seen k old
    → batch_cause s.fields s.history ready ≡ None → next ≡ admitted s number ready → IsLegal next.fields next.history → new ≡ having_added (rows_of b) mid → HasAdded b old new
added k s next b ready number old mid new same numbered known begun mid_is allowed next_is legal new_is =
    let is : new ≡ having_added (rows_of b) (having_seen (known_of s) old) =
    new_is ∙ ap (λ (w : Hand). having_added (rows_of b) w) mid_is ∙ ap (λ (i : Known). having_added (rows_of b) (having_seen i old)) known in
    let own : number ≡ old.number = numbered ∙ ap (λ (w : Hand). w.number) mid_is in
    let pushed : IsLegal s.fields (s.history ++ (number, rows_of ready) ∷ []) = subst (λ (t : Contents). IsLegal t.fields t.history) next_is legal in
    let named : IsLegal s.fields (s.history ++ (old.number, rows_of ready) ∷ []) = subst (λ n. IsLegal s.fields (s.history ++ (n, rows_of ready) ∷ [])) own pushed in
    subst (HasAdded b old) (sym is) (record {
      number = refl;
      before = known_of s;
      begun = subst (IsBeginning old.seen) known begun;
      allowed = subst (λ (x : Batch). batch_cause s.fields s.history x ≡ None) same allowed;
      fields = refl;
      history = refl;
      legal = subst (λ (x : Batch). IsLegal s.fields (s.history ++ (old.number, rows_of x) ∷ [])) same named;
      mine = refl;
      columns = refl;
      left = refl;
    })

-- a worker has added the column that the table has behind all that the worker then saw
pub widened_by : (k l : Known) (s next : Contents) (f : FieldShape) (old mid later new : Hand) → k ≡ known_of s → l ≡ known_of next → next ≡ with_last_field s f → IsLegalKnown (known_of s)
    → IsLegal next.fields next.history → IsBeginning old.seen k → mid ≡ having_seen k old → later ≡ having_seen l mid → new ≡ having_counted later → HasWidened f old new
widened_by k l s next f old mid later new k_is l_is added stood legal begun mid_is later_is new_is =
    let is : new ≡ having_counted (having_seen l (having_seen k old)) =
    new_is ∙ ap having_counted later_is ∙ ap (λ (w : Hand). having_counted (having_seen l w)) mid_is in
    let wide : l ≡ with_column k f = l_is ∙ ap known_of added ∙ ap (λ (i : Known). with_column i f) (sym k_is) in
    let few : length k.fields ≤ length l.fields = omega (arith, ap (λ (i : Known). length i.fields) wide, length-append k.fields (f ∷ [])) in
    subst (HasWidened f old) (sym is) (record {
      number = refl;
      before = k;
      begun = begun;
      stood = subst IsLegalKnown (sym k_is) stood;
      seen = wide;
      legal = subst IsLegalKnown (sym l_is) legal;
      mine = widened-again (length k.fields) (length l.fields) few old.mine;
      columns = refl;
      left = refl;
    })

-- it has as many pairs and rows of its own as before
pub widened_same : (f : FieldShape) (old new : Hand) → HasWidened f old new → (calls_of_hand new ≡ calls_of_hand old) × (rows_of_hand new ≡ rows_of_hand old)
widened_same f old new is =
    let n = length new.seen.fields in (
      ap (λ (h : History). length h) is.mine ∙ length-widened n old.mine,
      ap (λ (h : History). length (rows h)) is.mine ∙ rows_widened n old.mine,
    )

-- of one fact the first half alone
pub fewer : {A B C : Type 0} → (A × B) ⊎ C → A ⊎ C
fewer (inl x) = inl x.0
fewer (inr y) = inr y
