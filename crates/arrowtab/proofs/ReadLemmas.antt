-- Windows of sources, read to their ends and then parsed.
use Rattle.std.proofs.Common.{◌≡◌, ◌∙◌, ℕ, zero, suc, ◌+◌, ◌<◌, ◌≤◌, List, [], ◌∷◌, ◌++◌, append_assoc, append-nil, inl, inr, length, get_or, map, slice_get, set, take, Option, None, Some, option_map, IfSome, ap, sym, refl, subst, arith}
use Rattle.std.proofs.Math.Seq.{map-set_same}
use Rattle.std.proofs.lemmas.List.{get_or-map, get_or-set_other, get_or-set_same, length-append, length-map, length-set, map-append, map-set, take-set-le, take_all, take_more}
use Rattle.std.proofs.lemmas.Option.{slice_get-get_or, slice_get-map}
use Rattle.std.proofs.lemmas.Slice.Zip.{AllZip-long, all_zipped_more}
use Rattle.std.specs.Prelude.{◌⊎◌, All, Err}
use Rattle.std.specs.List.{AllByRecursion, AllZip}
use Rattle.arrays.specs.File.{File}
use Rattle.arrow_json.specs.Prelude.{AreUnder, BytesFault, JsonFault, Reads, file_of}
use Rattle.ends.specs.Source.{CountsReads}
use Rattle.ends.specs.declared.source.SourceFault.{SourceFault}
use Rattle.ends.specs.declared.source.SourceFault.TheVariants.{ReadFailed}
use Rattle.reports.proofs.ParseLemmas.{texts_under}
use Rattle.reports.specs.Prelude.{AddsFiles, IsTextOf, OrMemory, StopsParsing}
use Rattle.arrowtab.specs.Prelude.{AreRead, GiveFiles, Inputs, IsOfFiles}
use Rattle.reports.specs.declared.run_fault.FileFault.TheVariants.{CannotRead, Json}
use Rattle.reports.specs.declared.run_fault.RunFault.{RunFault}
use Rattle.reports.specs.declared.run_fault.RunFault.TheVariants.{NoMemory, OfFile}

-- ---- texts that sources reported, and what they are read as

-- The text is all that its source has to give, where it tells it.
abbrev pub IsRead : Option (List ℕ) → List ℕ → Type 0
IsRead input text = IfSome input (λ bytes. text ≡ bytes)

one_read : (input : Option (List ℕ)) (text : List ℕ) (f : File) → IsRead input text → IsTextOf text f → IfSome input (λ bytes. Reads bytes (file_of f))
one_read None text f reported is = tt
one_read (Some bytes) text f reported is = subst (λ b. Reads b (file_of f)) reported is.0

reported_read : (inputs : Inputs) (texts : List (List ℕ)) (files : List File) → AllZip IsRead inputs texts → AllZip IsTextOf texts files → AreRead inputs (map file_of files)
reported_read [] [] [] reported read = tt
reported_read [] [] (f ∷ files) reported read = absurd read
reported_read [] (t ∷ texts) files reported read = absurd reported
reported_read (i ∷ inputs) [] files reported read = absurd reported
reported_read (i ∷ inputs) (t ∷ texts) [] reported read = absurd read
reported_read (i ∷ inputs) (t ∷ texts) (f ∷ files) reported read = (one_read i t f reported.0 read.0, reported_read inputs texts files reported.1 read.1)

reported_stands : (input : Option (List ℕ)) (text : List ℕ) (f : JsonFault) → IsRead input text → BytesFault text f.kind f.path → IfSome input (λ bytes. BytesFault bytes f.kind f.path)
reported_stands None text f reported stands = tt
reported_stands (Some bytes) text f reported stands = subst (λ b. BytesFault b f.kind f.path) reported stands

-- the source of the text behind some
input_of : (inputs : Inputs) (n : ℕ) (front : List (List ℕ)) (text : List ℕ) (rest : List (List ℕ)) → AllZip IsRead (take n inputs) (front ++ text ∷ rest)
    → (input : Option (List ℕ)) × (slice_get inputs (length front) ≡ Some input) × IsRead input text
input_of inputs zero [] text rest reported = absurd reported
input_of inputs zero (u ∷ front) text rest reported = absurd reported
input_of [] (suc n) [] text rest reported = absurd reported
input_of [] (suc n) (u ∷ front) text rest reported = absurd reported
input_of (i ∷ inputs) (suc n) [] text rest reported = (i, refl, reported.0)
input_of (i ∷ inputs) (suc n) (u ∷ front) text rest reported = input_of inputs n front text rest reported.1

-- the sources of the texts before some
inputs_of : (inputs : Inputs) (n : ℕ) (front back : List (List ℕ)) → AllZip IsRead (take n inputs) (front ++ back) → AllZip IsRead (take (length front) inputs) front × (length front ≤ n)
inputs_of [] n [] back reported = (tt, omega arith)
inputs_of (i ∷ inputs) n [] back reported = (tt, omega arith)
inputs_of inputs zero (u ∷ front) back reported = absurd reported
inputs_of [] (suc n) (u ∷ front) back reported = absurd reported
inputs_of (i ∷ inputs) (suc n) (u ∷ front) back reported =
    let rest = inputs_of inputs n front back reported.1 in
    ((reported.0, rest.0), omega (arith, rest.1))

texts_append : (ts us : List (List ℕ)) (fs gs : List File) → AllZip IsTextOf ts fs → AllZip IsTextOf us gs → AllZip IsTextOf (ts ++ us) (fs ++ gs)
texts_append [] us [] gs all more = more
texts_append [] us (f ∷ fs) gs all more = absurd all
texts_append (t ∷ ts) us [] gs all more = absurd all
texts_append (t ∷ ts) us (f ∷ fs) gs all more = (all.0, texts_append ts us fs gs all.1 more)

-- ---- the sources so far

module _ {S : Type 0} (remaining : S → Option (List ℕ)) (failures : S → ℕ) (olds : List S) where
  abbrev inputs : Inputs
  inputs = map remaining olds

  -- The sources from place n on are untouched, and none failed. Those before it gave some texts, of which the first are these files.
  pub record ReadSoFar (sources : List S) (files : List File) (texts : List (List ℕ)) (n : ℕ) : Type 0 where
    pub same : length sources ≡ length olds
    pub untouched : (i : ℕ) (d : S) → n ≤ i → get_or sources i d ≡ get_or olds i d
    pub unfailed : map failures sources ≡ map failures olds
    pub parsed : List (List ℕ)
    pub reported : AllZip IsRead (take n inputs) (parsed ++ texts)
    pub read : AllZip IsTextOf parsed files

  pub ReadSoFar-none : ReadSoFar olds [] [] 0
  ReadSoFar-none = record { same = refl; untouched = λ i d h. refl; unfailed = refl; parsed = []; reported = tt; read = tt }

  module _ (sources : List S) (files : List File) (texts : List (List ℕ)) (n : ℕ) (so_far : ReadSoFar sources files texts n) where
    -- the source at place n is as it was
    pub all_at : (P : S → Type 0) (d : S) → All P olds → n < length olds → P (get_or sources n d)
    all_at P d all within = subst P (sym (so_far.untouched n d (omega arith))) (all n d within)

    -- one source more is read
    pub ReadSoFar-reported : (d new : S) (text : List ℕ) → n < length olds → IsRead (remaining (get_or sources n d)) text → failures new ≡ failures (get_or sources n d)
        → ReadSoFar (set sources n new) files (texts ++ text ∷ []) (n + 1)
    ReadSoFar-reported d new text within told same =
        let input = get_or inputs n (remaining d) in
        let is : input ≡ remaining (get_or sources n d) = get_or-map remaining olds n d (remaining d) within ∙ ap remaining (sym (so_far.untouched n d (omega arith))) in
        let next = take_more inputs n (remaining d) (omega (arith, within, length-map olds remaining)) in
        record {
          same = length-set sources n new ∙ so_far.same;
          untouched = λ i d h. get_or-set_other sources n i new d (λ is. omega (arith, h, is)) ∙ so_far.untouched i d (omega (arith, h));
          unfailed = map-set_same failures sources n new d same ∙ so_far.unfailed;
          parsed = so_far.parsed;
          reported =
              subst (λ l. AllZip IsRead l (so_far.parsed ++ (texts ++ text ∷ []))) (sym next)
              (subst (λ l. AllZip IsRead (take n inputs ++ input ∷ []) l) (append_assoc so_far.parsed texts (text ∷ []))
              (all_zipped_more IsRead (take n inputs) (so_far.parsed ++ texts) input text so_far.reported (subst (λ i. IsRead i text) (sym is) told)));
          read = so_far.read;
        }

    texts_read : (new : List File) → AddsFiles texts files new → AllZip IsTextOf (so_far.parsed ++ texts) new
    texts_read new adds = subst (λ l. AllZip IsTextOf (so_far.parsed ++ texts) l) (sym adds.1) (texts_append so_far.parsed texts files adds.0 so_far.read adds.2)

    -- the texts are parsed
    pub ReadSoFar-added : (new : List File) → AddsFiles texts files new → ReadSoFar sources new [] n
    ReadSoFar-added new adds = record {
      same = so_far.same;
      untouched = so_far.untouched;
      unfailed = so_far.unfailed;
      parsed = so_far.parsed ++ texts;
      reported = subst (λ l. AllZip IsRead (take n inputs) l) (sym (append-nil (so_far.parsed ++ texts))) so_far.reported;
      read = texts_read new adds;
    }

    -- one of them is no file
    pub parsing_stops : (workers : ℕ) (after : List ℕ) (fault : RunFault) → ((k : ℕ) → k ≤ n → take k after ≡ take k (map failures olds)) → OrMemory (StopsParsing texts (length files)) fault → OrMemory (IsOfFiles workers inputs (map failures olds) after) fault
    parsing_stops workers after fault unfailed (inl is) = inl is
    parsing_stops workers after fault unfailed (inr why) =
        let u = why.3 in
        let front = so_far.parsed ++ u.front in
        let place : length front ≡ why.0 = omega (arith, u.place, length-append so_far.parsed u.front, AllZip-long IsTextOf so_far.parsed files so_far.read) in
        let all = subst (λ l. AllZip IsRead (take n inputs) l) (ap (λ l. so_far.parsed ++ l) u.is ∙ sym (append_assoc so_far.parsed u.front (u.text ∷ u.rest))) so_far.reported in
        let told = input_of inputs n front u.text u.rest all in
        let before = inputs_of inputs n front (u.text ∷ u.rest) all in
        inr (
          why.0,
          Json why.1,
          why.2,
          record {
            input = told.0;
            of_file = subst (λ k. slice_get inputs k ≡ Some told.0) place told.1;
            stands = reported_stands told.0 u.text why.1 told.2 u.stands;
          },
          subst (GiveFiles inputs (map failures olds) after) place (record {
            files = map file_of (files ++ u.files);
            read = reported_read (take (length front) inputs) front (files ++ u.files) before.0 (texts_append so_far.parsed u.front files u.files so_far.read u.read);
            unfailed = unfailed (length front) before.1;
          }),
        )

    -- none of those that were read failed, nor any before the one that did
    pub unfailed_still : (k : ℕ) → k ≤ n → take k (map failures sources) ≡ take k (map failures olds)
    unfailed_still k within = ap (take k) so_far.unfailed

    pub unfailed_before : (new : S) (k : ℕ) → k ≤ n → take k (map failures (set sources n new)) ≡ take k (map failures olds)
    unfailed_before new k within =
        ap (take k) (map-set failures sources n new) ∙ take-set-le k (map failures sources) n (failures new) within ∙ unfailed_still k within

    -- the source of number n isn't read
    pub source_stops : (workers : ℕ) (d new : S) (all : List File) → AddsFiles texts files all → (fault : SourceFault) (reported : RunFault) → n < length olds → (fault ≡ ReadFailed → failures (get_or sources n d) < failures new)
        → (reported ≡ NoMemory) ⊎ ((fault ≡ ReadFailed) × (reported ≡ OfFile n CannotRead)) → OrMemory (IsOfFiles workers inputs (map failures olds) (map failures (set sources n new))) reported
    source_stops workers d new all adds fault reported within counted (inl is) = inl is
    source_stops workers d new all adds fault reported within counted (inr is) =
        let inside : n < length (set sources n new) = omega (arith, within, so_far.same, length-set sources n new) in
        inr (
          n,
          CannotRead,
          is.1,
          record {
            failed = failures (get_or sources n d);
            failures = failures new;
            first = slice_get-map failures olds n ∙ ap (option_map failures) (slice_get-get_or olds n d within ∙ ap (λ s. Some s) (sym (so_far.untouched n d (omega arith))));
            last = slice_get-map failures (set sources n new) n
                ∙ ap (option_map failures) (slice_get-get_or (set sources n new) n d inside ∙ ap (λ s. Some s) (get_or-set_same sources n new d (omega (arith, within, so_far.same))));
            more = counted is.0;
          },
          record {
            files = map file_of all;
            read = reported_read (take n inputs) (so_far.parsed ++ texts) all so_far.reported (texts_read all adds);
            unfailed = unfailed_before new n (omega arith);
          },
        )

    -- all of them are read
    pub ReadSoFar-whole : (new : List File) → AddsFiles texts files new → length olds ≤ n → AreRead inputs (map file_of new)
    ReadSoFar-whole new adds past =
        reported_read inputs (so_far.parsed ++ texts) new
        (subst (λ l. AllZip IsRead l (so_far.parsed ++ texts)) (take_all n inputs (omega (arith, past, length-map olds remaining))) so_far.reported)
        (texts_read new adds)

    pub all_under : (new : List File) → AddsFiles texts files new → AllByRecursion (λ f. AreUnder f.fields f.batches) new
    all_under new adds = texts_under (so_far.parsed ++ texts) new (texts_read new adds)

  -- the same, where its text is pushed
  pub ReadSoFar-pushed : {V : Type 0} (bytes : V → List ℕ) (sources : List S) (files : List File) (texts all : List V) (n : ℕ) (d new : S) (text : V) → ReadSoFar sources files (map bytes texts) n
      → n < length olds → all ≡ texts ++ text ∷ [] → IsRead (remaining (get_or sources n d)) (bytes text) → failures new ≡ failures (get_or sources n d) → ReadSoFar (set sources n new) files (map bytes all) (n + 1)
  ReadSoFar-pushed bytes sources files texts all n d new text so_far within is told same =
      subst (λ ts. ReadSoFar (set sources n new) files ts (n + 1)) (sym (ap (map bytes) is ∙ map-append bytes texts (text ∷ [])))
      (ReadSoFar-reported sources files (map bytes texts) n so_far d new (bytes text) within told same)

-- a read that failed is counted
pub counted : (A : Type 0) (old new : ℕ) (fault : SourceFault) → CountsReads {A = A} old new (Err fault) → fault ≡ ReadFailed → old < new
counted A old new fault counts is = let grown : new ≡ old + 1 = subst (λ f. CountsReads {A = A} old new (Err f)) is counts in omega (arith, grown)
