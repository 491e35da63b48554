-- Files read and loaded, one after the other.
use Rattle.std.proofs.Common.{◌≡◌, ◌≢◌, ◌∙◌, ℕ, ◌+◌, ◌<◌, ◌≤◌, List, [], ◌∷◌, ◌++◌, append_assoc, length, get_or, map, slice_get, take, Option, Some, None, option_map, inl, inr, ap, sym, refl, subst}
use Rattle.std.proofs.lemmas.List.{flat_map_more, map_push, take_all, take_more}
use Rattle.std.proofs.lemmas.List.Elements.{All-push}
use Rattle.std.proofs.lemmas.Slice.Zip.{all_zipped_more}
use Rattle.std.proofs.lemmas.Option.{get_or_from_slice_get, slice_get-get_or, slice_get-map, slice_get_within}
use Rattle.std.specs.Prelude.{◌⊎◌, All}
use Rattle.std.specs.List.{AllZip}
use Rattle.arrays.specs.Prelude.{Batch, FieldShape, File, first, rows_of}
use Rattle.arrow_json.specs.Prelude.{AreUnder, BytesFault, FileData, JsonFault, Reads, Tells, file_of}
use Rattle.arrow_json.specs.JsonFaultKinds.{NoMemory as wanting}
use Rattle.table.specs.Prelude.{Contents, History, IsLegal, admitted, batch_cause, cause, difference}
use Rattle.table.specs.declared.refusal.Refusal.{Refusal}
use Rattle.table.specs.declared.refusal.Refusal.TheVariants.{SchemaDiffers}
use Rattle.reports.proofs.FileLemmas.{file-listed}
use Rattle.reports.proofs.ParseLemmas.{reported_stands}
use Rattle.reports.specs.Prelude.{FileBatch, OrMemory, batch_of, batches_with_fields, table_fields}
use Rattle.reports.specs.declared.run_fault.FileFault.TheVariants.{Json, Refused}
use Rattle.reports.specs.declared.run_fault.RunFault.{RunFault}
use Rattle.reports.specs.declared.run_fault.RunFault.TheVariants.{NoMemory, OfFile}
use Rattle.embed.specs.Prelude.{AddsAll, StopsFiles, StopsReading, all_batches}
use Rattle.embed.specs.Refused.{IsStoppedIn}

-- what stands behind the reference at a place
pub view_at : {A B : Type 0} (v : A → B) (xs : List A) (n : ℕ) (d : A) → n < length xs → slice_get (map v xs) n ≡ Some (v (get_or xs n d))
view_at v xs n d below = slice_get-map v xs n ∙ ap (option_map v) (slice_get-get_or xs n d below)

pub value_at : {A B : Type 0} (v : A → B) (xs : List A) (n : ℕ) (x : A) (y : B) → n < length xs → x ≡ get_or xs n x → y ≡ v x → slice_get (map v xs) n ≡ Some y
value_at v xs n x y below is same = view_at v xs n x below ∙ ap (λ z. Some z) (ap v (sym is) ∙ sym same)

take_next : {A : Type 0} (xs : List A) (n : ℕ) (x : A) → slice_get xs n ≡ Some x → take (n + 1) xs ≡ take n xs ++ x ∷ []
take_next xs n x at = take_more xs n x (slice_get_within xs n x at) ∙ ap (λ y. take n xs ++ y ∷ []) (get_or_from_slice_get xs n x x at)

-- ---- texts

-- one text more is read
pub texts_more : (texts : List (List ℕ)) (files new : List File) (i : ℕ) (text : List ℕ) (f : File) → slice_get texts i ≡ Some text → AllZip Reads (take i texts) (map file_of files) → Reads text (file_of f)
    → new ≡ files ++ f ∷ [] → AllZip Reads (take (i + 1) texts) (map file_of new)
texts_more texts files new i text f at read is pushed =
    rw (pushed, take_next texts i text at, map_push file_of files f) (all_zipped_more Reads (take i texts) (map file_of files) text (file_of f) read is)

-- the fault of a text behind those that were read
pub unread_stops : (texts : List (List ℕ)) (files : List FileData) (i : ℕ) (text : List ℕ) (fault : JsonFault) (reported : RunFault) → slice_get texts i ≡ Some text → AllZip Reads (take i texts) files
    → Tells (BytesFault text) fault → (reported ≡ NoMemory) ⊎ ((fault.kind ≢ wanting) × (reported ≡ OfFile i (Json fault))) → OrMemory (StopsReading texts) reported
unread_stops texts files i text fault reported at read tells (inl is) = inl is
unread_stops texts files i text fault reported at read tells (inr is) =
    inr (i, fault, is.1, record { text = text; files = files; at = at; read = read; stands = reported_stands text fault is.0 tells })

-- ---- batches

no_difference : (o : Option ℕ) (rest : Option Refusal) → first (option_map (λ c. SchemaDiffers c) o ∷ rest ∷ []) ≡ None → o ≡ None
no_difference None rest none = refl
no_difference (Some c) rest none = absurd (cc none)

-- the batches of a file, as its bytes say them
pub listed : (files : List File) (place : ℕ) (f : File) (bs : List Batch) → All (λ g. AreUnder g.fields g.batches) files → place < length files → f ≡ get_or files place f → bs ≡ f.batches
    → batches_with_fields (file_of f) ≡ map batch_of bs
listed files place f bs under below is same =
    file-listed f.fields f.batches (subst (λ (g : File). AreUnder g.fields g.batches) (sym is) (under place f below)) ∙ ap (map batch_of) (sym same)

module _ (bs : List Batch) (n : ℕ) (b : Batch) (old : Contents) (at : slice_get bs n ≡ Some b) where
  there : slice_get (map batch_of bs) n ≡ Some (batch_of b)
  there = slice_get-map batch_of bs n ∙ ap (option_map batch_of) at

  -- one batch more
  pub adds_next : (before : List FileBatch) (fields : List FieldShape) (new : Contents) → old.fields ≡ fields → AddsAll (before ++ take n (map batch_of bs)) fields old.history
      → batch_cause old.fields old.history b ≡ None → new ≡ admitted old 0 b → IsLegal fields new.history → AddsAll (before ++ take (n + 1) (map batch_of bs)) fields new.history
  adds_next before fields new same is allowed added legal =
      let so_far = before ++ take n (map batch_of bs) in
      let next : so_far ++ batch_of b ∷ [] ≡ before ++ take (n + 1) (map batch_of bs) =
      append_assoc before (take n (map batch_of bs)) (batch_of b ∷ []) ∙ ap (λ l. before ++ l) (sym (take_next (map batch_of bs) n (batch_of b) there)) in
      subst (λ l. AddsAll l fields new.history) next (record {
        alike = All-push (λ (c : FileBatch). difference fields c.fields ≡ None) so_far (batch_of b) is.alike
            (subst (λ fs. difference fs b.fields ≡ None) same (no_difference (difference old.fields b.fields) (cause old.fields old.history (rows_of b)) allowed));
        whole = ap (λ (t : Contents). t.history) added ∙ ap (λ (h : History). h ++ (0, rows_of b) ∷ []) is.whole ∙ sym (map_push (λ (c : FileBatch). (0, c.rows)) so_far (batch_of b));
        legal = legal;
      })

  -- .. or the next one is refused
  pub is_refused : (files : List FileData) (place : ℕ) (one : FileData) → slice_get files place ≡ Some one → batches_with_fields one ≡ map batch_of bs → old.fields ≡ table_fields files
      → AddsAll (all_batches (take place files) ++ take n (map batch_of bs)) (table_fields files) old.history → (fault : RunFault)
      → (refusal : Refusal) × (fault ≡ OfFile place (Refused n refusal)) × (batch_cause old.fields old.history b ≡ Some refusal) → StopsFiles files fault
  is_refused files place one found same fields is fault (refusal, reported, stands) =
      let before = all_batches (take place files) in
      let stopped : IsStoppedIn before (map batch_of bs) (table_fields files) n refusal = record {
        batch = batch_of b;
        at = there;
        legal = subst (IsLegal (table_fields files)) is.whole is.legal;
        stands = subst (λ (h : History). batch_cause (table_fields files) h b ≡ Some refusal) is.whole (subst (λ fs. batch_cause fs old.history b ≡ Some refusal) fields stands);
      } in
      (place, n, refusal, reported, record { one = one; at = found; stopped = subst (λ l. IsStoppedIn before l (table_fields files) n refusal) (sym same) stopped })

-- all batches of a file
pub adds_all : (files : List FileData) (place : ℕ) (one : FileData) (bs : List FileBatch) (n : ℕ) (fields : List FieldShape) (h : History) → slice_get files place ≡ Some one → batches_with_fields one ≡ bs → length bs ≤ n
    → AddsAll (all_batches (take place files) ++ take n bs) fields h → AddsAll (all_batches (take (place + 1) files)) fields h
adds_all files place one bs n fields h at same end is =
    let before = all_batches (take place files) in
    let all : before ++ take n bs ≡ before ++ batches_with_fields one = ap (λ l. before ++ l) (take_all n bs end ∙ sym same) in
    subst (λ l. AddsAll l fields h) (all ∙ flat_map_more batches_with_fields [] (take place files) one ∙ ap all_batches (sym (take_next files place one at))) is
