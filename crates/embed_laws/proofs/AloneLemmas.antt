-- One worker's table, as the library's.
use Rattle.std.proofs.Common.{◌%◌, take, option_map, ◌≡◌, ◌∙◌, ℕ, ◌<◌, List, [], ◌∷◌, ◌++◌, map, None, Some, IfSome, Option, ap, inl, inr, sym, refl, subst, arith}
use Rattle.std.proofs.lemmas.List.{take-map}
use Rattle.std.proofs.lemmas.Option.{slice_get-map}
use Rattle.std.specs.Prelude.{All, ⊤}
use Rattle.std.specs.List.{AllByRecursion, AllZip, flat_map}
use Rattle.arrowtab.specs.Prelude.{Answers, AreRead, Explains, FieldShape, FileBatch, FileData, History, IsColumn, IsFirst, IsLoaded, IsQueryRead, IsStopped, OfJob, OrMemory, Prints, PrintsNothing, Reads, Refusal, Refuses, RefusesGroups, RunFault, added_by, batch_tables, batches_with_fields, column_text, difference, planned, table_fields}
use Rattle.job.specs.Jobs.{text_of_query}
use Rattle.job.specs.declared.jobs.Command.{Command}
use Rattle.job.specs.declared.jobs.Command.TheVariants as command
use Rattle.job.specs.declared.jobs.Job.{Job}
use Rattle.job.specs.declared.jobs.Output.{Output}
use Rattle.job.specs.declared.jobs.Output.TheVariants as output
use Rattle.job.specs.declared.jobs.QuerySource.{QuerySource}
use Rattle.arrowtab.proofs.ParseLemmas.{zip_map}
use Rattle.embed.specs.Prelude.{AddsAll, AreLoadable, IsAnswered, IsBatchRefused, IsExport, IsQueryRefused, IsSchema, IsStats, OfTable, StopsQuery, StopsTexts, added, all_batches}
use Rattle.arrowtab.proofs.PlanLemmas.{all_from, all_split, by_recursion, planned_alone}

module _ (fields : List FieldShape) where
  abbrev Alike : FileBatch → Type 0
  Alike b = difference fields b.fields ≡ None

  alike_each : (files : List FileData) → AllByRecursion Alike (all_batches files) → AllByRecursion (λ (bs : List FileBatch). All Alike bs) (map batches_with_fields files)
  alike_each [] all = tt
  alike_each (f ∷ files) all =
      let parts = all_split Alike (batches_with_fields f) (all_batches files) all in
      (all_from Alike (batches_with_fields f) parts.0, alike_each files parts.1)

known_all : (bs : List FileBatch) → AllByRecursion (λ e. e.0 < 1) (added bs)
known_all [] = tt
known_all (b ∷ bs) = (omega arith, known_all bs)

own : (bs : List FileBatch) → added_by (added bs) 0 ≡ batch_tables bs
own [] = refl
own (b ∷ bs) = ap (λ l. b.rows ∷ l) (own bs)

joined : (files : List FileData) → flat_map (λ (bs : List FileBatch). bs) (map batches_with_fields files) ≡ all_batches files
joined [] = refl
joined (f ∷ files) = ap (λ (l : List FileBatch). batches_with_fields f ++ l) (joined files)

added_each : (files : List FileData) (w : ℕ) → w < 1 → added_by (added (all_batches files)) w ≡ batch_tables (planned (map batches_with_fields files) 1 w)
added_each files w below =
    let first : w ≡ 0 = omega (arith, below) in
    subst (λ n. added_by (added (all_batches files)) n ≡ batch_tables (planned (map batches_with_fields files) 1 n)) (sym first)
    (own (all_batches files) ∙ ap batch_tables (sym (planned_alone (map batches_with_fields files) ∙ joined files)))

-- what was added alone is what one worker loads
loaded_alone : (files : List FileData) (fields : List FieldShape) (h : History) → AddsAll (all_batches files) fields h → IsLoaded 1 (map batches_with_fields files) fields h
loaded_alone files fields h is = record {
  alike = all_from (λ (bs : List FileBatch). All (Alike fields) bs) (map batches_with_fields files) (alike_each fields files (by_recursion (Alike fields) (all_batches files) is.alike));
  known = subst (λ (g : History). All (λ e. e.0 < 1) g) (sym is.whole) (all_from (λ e. e.0 < 1) (added (all_batches files)) (known_all (all_batches files)));
  each = λ w below. subst (λ (g : History). added_by g w ≡ batch_tables (planned (map batches_with_fields files) 1 w)) (sym is.whole) (added_each files w below);
  legal = is.legal;
}

inputs_read : (texts : List (List ℕ)) (files : List FileData) → AllZip Reads texts files → AreRead (map (λ t. Some t) texts) files
inputs_read texts files read = zip_map (λ t. Some t) (λ (input : Option (List ℕ)) (file : FileData). IfSome input (λ bytes. Reads bytes file)) texts files read

-- what is said of the library's table is said of one worker's
of_alone : (job : Job) (texts : List (List ℕ)) (says said : List FieldShape → History → Type 0) → job.workers ≡ 1 → column_text job ≡ None → ((fields : List FieldShape) (h : History) → says fields h → said fields h)
    → OfTable texts says → OfJob job (map (λ t. Some t) texts) said
of_alone job texts says said one bare means is =
    let files = is.holds.files in
    let opened = is.holds.opened in
    record {
      files = files;
      read = inputs_read texts files is.holds.read;
      column = None;
      given = subst (λ c. IsColumn c None) (sym bare) tt;
      allowed = tt;
      history = is.history;
      loaded = subst (λ n. IsLoaded n (map batches_with_fields files) (table_fields files) is.history) (sym one)
          (subst (λ (fs : List FieldShape). IsLoaded 1 (map batches_with_fields files) fs is.history) opened (loaded_alone files is.fields is.history is.holds.loaded));
      is = subst (λ (fs : List FieldShape). said fs is.history) opened (means is.fields is.history is.is);
    }

module _ (job : Job) (texts : List (List ℕ)) (text : List ℕ) (one : job.workers ≡ 1) (bare : column_text job ≡ None) where
  answers_alone : (says : List FieldShape → History → Type 0) → ((fields : List FieldShape) (h : History) → says fields h → Prints job.command 1 fields h text) → OfTable texts says → Answers job (map (λ t. Some t) texts) text
  answers_alone says prints is =
      of_alone job texts says (λ fields h. Prints job.command job.workers fields h text) one bare (λ fields h said. subst (λ n. Prints job.command n fields h text) (sym one) (prints fields h said)) is

  pub stats_alone : job.command ≡ command.Stats → IsStats texts text → Answers job (map (λ t. Some t) texts) text
  stats_alone same is = answers_alone _ (λ fields h prints. subst (λ (c : Command). Prints c 1 fields h text) (sym same) prints) is

  pub schema_alone : job.command ≡ command.Schema → IsSchema texts text → Answers job (map (λ t. Some t) texts) text
  schema_alone same is = answers_alone _ (λ fields h prints. subst (λ (c : Command). Prints c 1 fields h text) (sym same) prints) is

  pub validate_alone : job.command ≡ command.Validate → text ≡ [] → AreLoadable texts → Answers job (map (λ t. Some t) texts) text
  validate_alone same none is = answers_alone _ (λ fields h loadable. subst (λ (c : Command). Prints c 1 fields h text) (sym same) none) is

  pub export_alone : job.command ≡ command.Export → IsExport texts text → Answers job (map (λ t. Some t) texts) text
  export_alone same is = answers_alone _ (λ fields h prints. subst (λ (c : Command). Prints c 1 fields h text) (sym same) prints) is

  pub query_alone : (source : QuerySource) → job.command ≡ command.Query source output.Lines → IsAnswered (text_of_query source) texts text → Answers job (map (λ t. Some t) texts) text
  query_alone source same is = answers_alone _ (λ fields h prints. subst (λ (c : Command). Prints c 1 fields h text) (sym same) (is.0, is.1, prints)) is.2

-- ---- what stands against it

planned_front : (file : ℕ) (files : List FileData) → planned (take file (map batches_with_fields files)) 1 0 ≡ all_batches (take file files)
planned_front file files =
    planned_alone (take file (map batches_with_fields files)) ∙ ap (flat_map (λ (bs : List FileBatch). bs)) (take-map batches_with_fields file files) ∙ joined (take file files)

stopped_alone : (files : List FileData) (file number : ℕ) (e : Refusal) → IsBatchRefused files file number e → IsStopped 1 (map batches_with_fields files) (table_fields files) file number e
stopped_alone files file number e is =
    let bs = take number (batches_with_fields is.one) in
    let all = all_batches (take file files) ++ bs in
    let none : file % 1 ≡ 0 = omega arith in
    record {
      batches = batches_with_fields is.one;
      batch = is.stopped.batch;
      history = added all;
      in_files = slice_get-map batches_with_fields files file ∙ ap (option_map batches_with_fields) is.at;
      in_file = is.stopped.at;
      known = all_from (λ e. e.0 < 1) (added all) (known_all all);
      own = subst (λ n. added_by (added all) n ≡ batch_tables (planned (take file (map batches_with_fields files)) 1 n ++ bs)) (sym none)
          (own all ∙ ap (λ (l : List FileBatch). batch_tables (l ++ bs)) (sym (planned_front file files)));
      others = λ w below other. absurd (other (omega (arith, below, none)));
      legal = is.stopped.legal;
      stands = is.stopped.stands;
    }

module _ (job : Job) (texts : List (List ℕ)) (before after : List ℕ) (one : job.workers ≡ 1) where
  pub stops_alone : (fault : RunFault) → OrMemory (StopsTexts texts) fault → Explains job (map (λ t. Some t) texts) before after fault
  stops_alone fault (inl is) = subst (Explains job (map (λ t. Some t) texts) before after) (sym is) tt
  stops_alone fault (inr (inl is)) =
      let text = is.3 in
      subst (Explains job (map (λ t. Some t) texts) before after) (sym is.2) (record {
        input = Some text.text;
        of_file = slice_get-map (λ t. Some t) texts is.0 ∙ ap (option_map (λ t. Some t)) text.at;
        stands = text.stands;
      })
  stops_alone fault (inr (inr is)) =
      let batch = is.2 in
      subst (Explains job (map (λ t. Some t) texts) before after) (sym batch.3)
      (subst (λ n. Refuses n (map (λ t. Some t) texts) batch.0 batch.1 batch.2) (sym one)
      (record { files = is.0; read = inputs_read texts is.0 is.1; stopped = stopped_alone is.0 batch.0 batch.1 batch.2 batch.4 }))

  refused_alone : (source : QuerySource) → column_text job ≡ None → (form : Output) → job.command ≡ command.Query source form → (fault : RunFault) → IsQueryRefused (text_of_query source) texts fault → Explains job (map (λ t. Some t) texts) before after fault
  refused_alone source bare form same fault is =
      let table = is.2 in
      let refused = table.is in
      subst (Explains job (map (λ t. Some t) texts) before after) (sym refused.1)
      (of_alone job texts (λ fields h. RefusesGroups is.0 fields h refused.0) (λ fields h. PrintsNothing job.command fields h refused.0) one bare
      (λ fields h refuses. record { source = source; output = form; asks = same; query = is.0; reads = is.1; refuses = refuses })
      (record { fields = table.fields; history = table.history; holds = table.holds; is = refused.2 }))

  pub query_stops_alone : (source : QuerySource) → column_text job ≡ None → (form : Output) → job.command ≡ command.Query source form → (fault : RunFault) → OrMemory (StopsQuery (text_of_query source) texts) fault → Explains job (map (λ t. Some t) texts) before after fault
  query_stops_alone source bare form same fault (inl is) = stops_alone fault (inl is)
  query_stops_alone source bare form same fault (inr (inl is)) =
      subst (Explains job (map (λ t. Some t) texts) before after) (sym is.1) (record { source = source; output = form; asks = same; stands = is.2 })
  query_stops_alone source bare form same fault (inr (inr (inl is))) = refused_alone source bare form same fault is
  query_stops_alone source bare form same fault (inr (inr (inr is))) = stops_alone fault (inr is.1)

-- ---- and is the first

pub first_alone : (job : Job) (texts : List (List ℕ)) (counts : List ℕ) → column_text job ≡ None → IsQueryRead job.command → (fault : RunFault) → OrMemory (StopsTexts texts) fault
    → IsFirst job (map (λ t. Some t) texts) counts counts ⊤ fault
first_alone job texts counts bare query fault (inl is) = subst (IsFirst job (map (λ t. Some t) texts) counts counts ⊤) (sym is) tt
first_alone job texts counts bare query fault (inr (inl is)) =
    let text = is.3 in
    subst (IsFirst job (map (λ t. Some t) texts) counts counts ⊤) (sym is.2) (
      query,
      (None, subst (λ c. IsColumn c None) (sym bare) tt),
      record {
        files = text.files;
        read = subst (λ inputs. AreRead inputs text.files) (sym (take-map (λ (t : List ℕ). Some t) is.0 texts)) (inputs_read (take is.0 texts) text.files text.read);
        unfailed = refl;
      },
    )
first_alone job texts counts bare query fault (inr (inr is)) =
    subst (IsFirst job (map (λ t. Some t) texts) counts counts ⊤) (sym is.2.3) (query, (None, subst (λ c. IsColumn c None) (sym bare) tt), refl)

pub query_first_alone : (job : Job) (texts : List (List ℕ)) (counts : List ℕ) (source : QuerySource) → column_text job ≡ None → (form : Output) → job.command ≡ command.Query source form
    → (fault : RunFault) → OrMemory (StopsQuery (text_of_query source) texts) fault → IsFirst job (map (λ t. Some t) texts) counts counts ⊤ fault
query_first_alone job texts counts source bare form same fault (inl is) = subst (IsFirst job (map (λ t. Some t) texts) counts counts ⊤) (sym is) tt
query_first_alone job texts counts source bare form same fault (inr (inl is)) = subst (IsFirst job (map (λ t. Some t) texts) counts counts ⊤) (sym is.1) tt
query_first_alone job texts counts source bare form same fault (inr (inr (inl is))) = subst (IsFirst job (map (λ t. Some t) texts) counts counts ⊤) (sym is.2.is.1) refl
query_first_alone job texts counts source bare form same fault (inr (inr (inr is))) =
    first_alone job texts counts bare (subst IsQueryRead (sym same) is.0) fault (inr is.1)
