-- What was made of the files, as an answer of the sources' bytes.
use Rattle.std.proofs.Common.{Result, IfOk, IfErr, ◌≡◌, ◌∙◌, inl, inr, ℕ, List, [], ◌∷◌, length, map, Option, None, Some, ap, sym, refl, subst}
use Rattle.std.proofs.lemmas.List.{length-map}
use Rattle.std.proofs.lemmas.Result.{IfErr-weaker, IfOk-weaker}
use Rattle.std.proofs.lemmas.Slice.Zip.{AllZip-long}
use Rattle.arrays.specs.Prelude.{FieldShape, File}
use Rattle.arrow_json.specs.Prelude.{ReadsQueryText, file_of}
use Rattle.job.specs.Jobs.{text_of_query}
use Rattle.job.specs.declared.jobs.Command.{Command}
use Rattle.job.specs.declared.jobs.Command.TheVariants as command
use Rattle.job.specs.declared.jobs.Command.TheVariants.{Query}
use Rattle.job.specs.declared.jobs.Job.{Job}
use Rattle.job.specs.declared.jobs.Output.{Output}
use Rattle.job.specs.declared.jobs.QuerySource.{QuerySource}
use Rattle.table.specs.Prelude.{Contents, History, QueryText, add_fault, named}
use Rattle.table.specs.declared.add_fault.AddFault.{AddFault}
use Rattle.arrowtab.specs.Prelude.{Answers, AreLoaded, AreRead, Explains, Holds, Inputs, IsColumn, IsColumnRead, IsColumnRefused, IsColumnUnread, IsFileRefused, IsFirst, IsLoaded, IsOfFiles, IsQueryRead, IsStopped, IsUnprinted, IsUnread, IsWanted, IsWith, OfJob, Prints, PrintsNothing, PrintsWanted, RefusesColumn, column_text, fields_with, history_with, listed}
use Rattle.reports.specs.Prelude.{FileBatch, IsUnreadQuery, OrMemory, batch_of, batches_with_fields, table_fields}
use Rattle.arrowtab.specs.declared.wanted.Wanted.{Wanted}
use Rattle.arrowtab.specs.declared.wanted.Wanted.TheVariants.{Groups}
use Rattle.reports.proofs.FileLemmas.{AreKept, data_of, file-listed}
use Rattle.loads.specs.Loaded.{fields_for}
use Rattle.reports.specs.declared.run_fault.RunFault.{RunFault}

-- ---- batches of files, as the files' bytes say them

files-listed : (files : List File) → AreKept files → map batches_with_fields (data_of files) ≡ listed files
files-listed [] kept = refl
files-listed (f ∷ files) kept =
    ap (λ (l : List FileBatch). l ∷ map batches_with_fields (data_of files)) (file-listed f.fields f.batches kept.0)
    ∙ ap (λ (ls : List (List FileBatch)). map batch_of f.batches ∷ ls) (files-listed files kept.1)

fields-same : (files : List File) → table_fields (data_of files) ≡ fields_for files
fields-same [] = refl
fields-same (f ∷ files) = refl

-- ---- what a command asks for

prints_command : (command : Command) (wanted : Wanted) (workers : ℕ) (fields : List FieldShape) (h : History) (text : List ℕ) → IsWanted command wanted → PrintsWanted wanted workers fields h text
    → Prints command workers fields h text
prints_command command.Stats wanted workers fields h text is prints = subst (λ w. PrintsWanted w workers fields h text) is prints
prints_command command.Schema wanted workers fields h text is prints = subst (λ w. PrintsWanted w workers fields h text) is prints
prints_command command.Validate wanted workers fields h text is prints = subst (λ w. PrintsWanted w workers fields h text) is prints
prints_command (command.Head count) wanted workers fields h text is prints = subst (λ w. PrintsWanted w workers fields h text) is prints
prints_command command.Export wanted workers fields h text is prints = subst (λ w. PrintsWanted w workers fields h text) is prints
prints_command (Query source output) wanted workers fields h text is prints = (named is.0, is.2, subst (λ w. PrintsWanted w workers fields h text) is.1 prints)

asks_query : (command : Command) (wanted : Wanted) (query : QueryText) (output : Output) → IsWanted command wanted → wanted ≡ Groups query output
    → (source : QuerySource) × (command ≡ Query source output) × ReadsQueryText (text_of_query source) (named query)
asks_query command.Stats wanted query output is same = absurd (cc (is, same))
asks_query command.Schema wanted query output is same = absurd (cc (is, same))
asks_query command.Validate wanted query output is same = absurd (cc (is, same))
asks_query (command.Head count) wanted query output is same = absurd (cc (is, same))
asks_query command.Export wanted query output is same = absurd (cc (is, same))
asks_query (Query source form) wanted query output is same =
    let asked : Groups is.0 form ≡ Groups query output = sym is.1 ∙ same in
    let one : is.0 ≡ query = cc asked in
    (source, cc asked, subst (λ q. ReadsQueryText (text_of_query source) (named q)) one is.2)

pub query_read : (command : Command) (wanted : Wanted) → IsWanted command wanted → IsQueryRead command
query_read command.Stats wanted is = tt
query_read command.Schema wanted is = tt
query_read command.Validate wanted is = tt
query_read (command.Head count) wanted is = tt
query_read command.Export wanted is = tt
query_read (Query source output) wanted is = (named is.0, is.2)

-- ---- a column that is refused

refuses_column : (job : Job) (text : Option (List ℕ)) (f : FieldShape) (fault : AddFault) → column_text job ≡ text → IsColumn text (Some f) → add_fault f ≡ Some fault → RefusesColumn job fault
refuses_column job None f fault given is stands = absurd is
refuses_column job (Some bytes) f fault given is stands = record { text = bytes; field = f; given = given; read = is; stands = stands }

pub column_explains : (job : Job) (inputs : Inputs) (before after : List ℕ) (column : Option FieldShape) (fault : RunFault) → IsColumn (column_text job) column → OrMemory (IsColumnRefused column) fault
    → Explains job inputs before after fault
column_explains job inputs before after column fault given (inl is) = subst (Explains job inputs before after) (sym is) tt
column_explains job inputs before after column fault given (inr is) =
    subst (Explains job inputs before after) (sym is.3) (refuses_column job (column_text job) is.0 is.1 refl (subst (IsColumn (column_text job)) is.2 given) is.4)

-- ---- the fault of a file

pub reading_explains : (job : Job) (inputs : Inputs) (before after : List ℕ) (fault : RunFault) → OrMemory (IsOfFiles job.workers inputs before after) fault → Explains job inputs before after fault
reading_explains job inputs before after fault (inl is) = subst (Explains job inputs before after) (sym is) tt
reading_explains job inputs before after fault (inr is) = subst (Explains job inputs before after) (sym is.2) is.3

-- ---- what comes before a fault

module _ (job : Job) (inputs : Inputs) (before after : List ℕ) (still : Type 0) where
  pub query_first : still → (fault : RunFault) → OrMemory (IsUnread job.command) fault → IsFirst job inputs before after still fault
  query_first untouched fault (inl is) = subst (IsFirst job inputs before after still) (sym is) tt
  query_first untouched fault (inr is) = subst (IsFirst job inputs before after still) (sym is.1) untouched

  module _ (wanted : Wanted) (asked : IsWanted job.command wanted) where
    pub column_first : still → (fault : RunFault) → OrMemory (IsColumnUnread job) fault → IsFirst job inputs before after still fault
    column_first untouched fault (inl is) = subst (IsFirst job inputs before after still) (sym is) tt
    column_first untouched fault (inr is) = subst (IsFirst job inputs before after still) (sym is.1) (query_read job.command wanted asked, untouched)

    pub reading_first : (column : Option FieldShape) → IsColumn (column_text job) column → (fault : RunFault) → OrMemory (IsOfFiles job.workers inputs before after) fault
        → IsFirst job inputs before after still fault
    reading_first column given fault (inl is) = subst (IsFirst job inputs before after still) (sym is) tt
    reading_first column given fault (inr is) = subst (IsFirst job inputs before after still) (sym is.2) (query_read job.command wanted asked, (column, given), is.4)

    pub loading_first : (column : Option FieldShape) → IsColumn (column_text job) column → after ≡ before → (files : List File) (fault : RunFault) → OrMemory (IsFileRefused job.workers files) fault
        → IsFirst job inputs before after still fault
    loading_first column given unfailed files fault (inl is) = subst (IsFirst job inputs before after still) (sym is) tt
    loading_first column given unfailed files fault (inr is) = subst (IsFirst job inputs before after still) (sym is.3) (query_read job.command wanted asked, (column, given), unfailed)

    pub adding_first : after ≡ before → AreLoaded job.workers inputs → (column : Option FieldShape) (fault : RunFault) → OrMemory (IsColumnRefused column) fault → IsFirst job inputs before after still fault
    adding_first unfailed loaded column fault (inl is) = subst (IsFirst job inputs before after still) (sym is) tt
    adding_first unfailed loaded column fault (inr is) = subst (IsFirst job inputs before after still) (sym is.3) (query_read job.command wanted asked, loaded, unfailed)

  answer_first : after ≡ before → (wanted : Wanted) (fields : List FieldShape) (h : History) (fault : RunFault) → OrMemory (IsUnprinted wanted fields h) fault → IsFirst job inputs before after still fault
  answer_first unfailed wanted fields h fault (inl is) = subst (IsFirst job inputs before after still) (sym is) tt
  answer_first unfailed wanted fields h fault (inr is) = subst (IsFirst job inputs before after still) (sym is.3.1) unfailed

  pub err_first : {A : Type 0} (wanted : Wanted) (fields : List FieldShape) (h : History) (r : Result A RunFault) → after ≡ before → IfErr r (OrMemory (IsUnprinted wanted fields h))
      → IfErr r (IsFirst job inputs before after still)
  err_first wanted fields h r unfailed why = IfErr-weaker r _ _ (answer_first unfailed wanted fields h) why

-- ---- over the files

module _ (job : Job) (inputs : Inputs) (files : List File) (are_read : AreRead inputs (data_of files)) (kept : AreKept files) where
  -- what holds of the files' batches and fields holds of what their bytes say
  of_data : (P : List (List FileBatch) → List FieldShape → Type 0) → P (listed files) (fields_for files) → P (map batches_with_fields (data_of files)) (table_fields (data_of files))
  of_data P is = subst (P (map batches_with_fields (data_of files))) (sym (fields-same files)) (subst (λ ls. P ls (fields_for files)) (sym (files-listed files kept)) is)

  pub loading_explains : (before after : List ℕ) (fault : RunFault) → OrMemory (IsFileRefused job.workers files) fault → Explains job inputs before after fault
  loading_explains before after fault (inl is) = subst (Explains job inputs before after) (sym is) tt
  loading_explains before after fault (inr is) =
      subst (Explains job inputs before after) (sym is.3) (record { files = data_of files; read = are_read; stopped = of_data (λ ls fs. IsStopped job.workers ls fs is.0 is.1 is.2) is.4 })

  pub all_loaded : (loaded : Contents) → Holds job.workers files loaded → AreLoaded job.workers inputs
  all_loaded loaded holds = record {
    files = data_of files;
    read = are_read;
    history = loaded.history;
    loaded = of_data (λ ls fs. IsLoaded job.workers ls fs loaded.history) holds.loaded;
  }

  -- ---- the command's output

  module _ (column : Option FieldShape) (given : IsColumn (column_text job) column) (wanted : Wanted) (asked : IsWanted job.command wanted) (loaded v : Contents) (holds : Holds job.workers files loaded)
      (wider : IsWith column loaded v) where
    of_job : (says : List FieldShape → History → Type 0) → says v.fields v.history → OfJob job inputs says
    of_job says is = record {
      files = data_of files;
      read = are_read;
      column = column;
      given = given;
      allowed = wider.allowed;
      history = loaded.history;
      loaded = of_data (λ ls fs. IsLoaded job.workers ls fs loaded.history) holds.loaded;
      is =
          subst (λ (fs : List FieldShape). says (fields_with column fs) (history_with column fs loaded.history)) (holds.fields ∙ sym (fields-same files))
          (subst (says (fields_with column loaded.fields)) wider.history (subst (λ (fs : List FieldShape). says fs v.history) wider.fields is));
    }

    answers_printed : (text : List ℕ) → PrintsWanted wanted job.workers v.fields v.history text → Answers job inputs text
    answers_printed text prints =
        of_job (λ fs h. Prints job.command job.workers fs h text) (prints_command job.command wanted job.workers v.fields v.history text asked prints)

    output_explains : (before after : List ℕ) (fault : RunFault) → OrMemory (IsUnprinted wanted v.fields v.history) fault → Explains job inputs before after fault
    output_explains before after fault (inl is) = subst (Explains job inputs before after) (sym is) tt
    output_explains before after fault (inr why) =
        let asks = asks_query job.command wanted why.0 why.1 asked why.2 in
        subst (Explains job inputs before after) (sym why.3.1)
        (of_job (λ fs h. PrintsNothing job.command fs h why.3.0) (record { source = asks.0; output = why.1; asks = asks.1; query = named why.0; reads = asks.2; refuses = why.3.2 }))

    pub ok_answers : {A : Type 0} (r : Result A RunFault) (text : A → List ℕ) → IfOk r (λ t. PrintsWanted wanted job.workers v.fields v.history (text t)) → IfOk r (λ t. Answers job inputs (text t))
    ok_answers r text prints = IfOk-weaker r _ _ (λ t. answers_printed (text t)) prints

    pub err_explains : {A : Type 0} (before after : List ℕ) (r : Result A RunFault) → IfErr r (OrMemory (IsUnprinted wanted v.fields v.history)) → IfErr r (Explains job inputs before after)
    err_explains before after r why = IfErr-weaker r _ _ (output_explains before after) why

-- the fault of a query's text is one of the command that has the text
pub text_unread : (command : Command) (source : QuerySource) (output : Output) → command ≡ Query source output → (fault : RunFault) → IsUnreadQuery (text_of_query source) fault → IsUnread command fault
text_unread command source output asks fault why = (why.0, why.1, record { source = source; output = output; asks = asks; stands = why.2 })

-- there are as many files as sources
pub some_files : (inputs : Inputs) (files : List File) → AreRead inputs (data_of files) → length files ≡ length inputs
some_files inputs files are_read = sym (length-map files file_of) ∙ AllZip-long _ inputs (data_of files) are_read
