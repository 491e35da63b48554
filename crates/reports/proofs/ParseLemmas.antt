-- Texts that are parsed at once, and reported in order.
use Rattle.std.proofs.Common.{◌≡◌, ◌∙◌, ℕ, suc, ◌<◌, List, [], ◌∷◌, ◌++◌, append_assoc, append-nil, length, map, Result, Ok, Err, inl, inr, slice_index_or, ap, sym, refl, subst, arith}
use Rattle.std.proofs.lemmas.List.{length-append, map-append, nil_from_length}
use Rattle.std.proofs.lemmas.Slice.Zip.{AllZip-long}
use Rattle.std.specs.Prelude.{◌⊎◌}
use Rattle.std.specs.List.{AllByRecursion, AllZip}
use Rattle.arrays.specs.File.{File}
use Rattle.arrow_json.specs.Prelude.{AreUnder, BytesFault, JsonFault, Tells, stands, wants}
use Rattle.arrow_json.specs.JsonFaultKinds.{NoMemory as wanting}
use Rattle.reports.specs.Prelude.{AddsFiles, IsParsed, IsTextOf, OrMemory, StopsParsing}
use Rattle.reports.specs.declared.run_fault.FileFault.TheVariants.{Json}
use Rattle.reports.specs.declared.run_fault.RunFault.{RunFault}
use Rattle.reports.specs.declared.run_fault.RunFault.TheVariants.{NoMemory, OfFile}

abbrev pub Parsed : Type 0
Parsed = Result File JsonFault

-- relations that hold at each place hold of the lists
pub each_zip : {X Y : Type 0} (R : X → Y → Type 0) (xs : List X) (ys : List Y) → length ys ≡ length xs → ((i : ℕ) (d : X) (e : Y) → i < length xs → R (slice_index_or xs i d) (slice_index_or ys i e)) → AllZip R xs ys
each_zip R [] [] same each = tt
each_zip R [] (y ∷ ys) same each = absurd (omega (arith, same))
each_zip R (x ∷ xs) [] same each = absurd (omega (arith, same))
each_zip R (x ∷ xs) (y ∷ ys) same each = (each 0 x y (omega arith), each_zip R xs ys (omega (arith, same)) (λ i d e h. each (suc i) d e (omega (arith, h))))

pub zip_map : {V X Y : Type 0} (f : V → X) (R : X → Y → Type 0) (vs : List V) (ys : List Y) → AllZip (λ v y. R (f v) y) vs ys → AllZip R (map f vs) ys
zip_map f R [] [] all = tt
zip_map f R [] (y ∷ ys) all = absurd all
zip_map f R (v ∷ vs) [] all = absurd all
zip_map f R (v ∷ vs) (y ∷ ys) all = (all.0, zip_map f R vs ys all.1)

-- The files of the first texts were added, and these are what the others were parsed to.
pub record AddsSoFar (texts : List (List ℕ)) (old files : List File) (rest : List Parsed) : Type 0 where
  pub added : List File
  pub files_are : files ≡ old ++ added
  pub parsed : AllZip IsParsed texts (map (λ f. Ok f) added ++ rest)

pub AddsSoFar-none : (texts : List (List ℕ)) (old : List File) (rest : List Parsed) → AllZip IsParsed texts rest → AddsSoFar texts old old rest
AddsSoFar-none texts old rest all = record { added = []; files_are = sym (append-nil old); parsed = all }

pub AddsSoFar-more : (texts : List (List ℕ)) (old files new : List File) (rest later : List Parsed) (f : File) → AddsSoFar texts old files rest → rest ≡ Ok f ∷ later → new ≡ files ++ f ∷ []
    → AddsSoFar texts old new later
AddsSoFar-more texts old files new rest later f so_far next pushed = record {
  added = so_far.added ++ f ∷ [];
  files_are = pushed ∙ ap (λ l. l ++ f ∷ []) so_far.files_are ∙ append_assoc old so_far.added (f ∷ []);
  parsed = rw (map-append, append_assoc) (rw next at so_far.parsed);
}

-- the texts of the files, and the others
split : (texts : List (List ℕ)) (added : List File) (rest : List Parsed) → AllZip IsParsed texts (map (λ f. Ok f) added ++ rest)
    → (front : List (List ℕ)) × (back : List (List ℕ)) × (texts ≡ front ++ back) × AllZip IsTextOf front added × AllZip IsParsed back rest
split texts [] rest all = ([], texts, refl, tt, all)
split [] (f ∷ added) rest all = absurd all
split (t ∷ texts) (f ∷ added) rest all = let s = split texts added rest all.1 in (t ∷ s.0, s.1, ap (λ l. t ∷ l) s.2, (all.0, s.3), s.4)

-- the text of what was parsed first of them
first_of : (back : List (List ℕ)) (p : Parsed) (rest : List Parsed) → AllZip IsParsed back (p ∷ rest) → (text : List ℕ) × (others : List (List ℕ)) × (back ≡ text ∷ others) × IsParsed text p
first_of [] p rest all = absurd all
first_of (text ∷ others) p rest all = (text, others, refl, all.0)

-- the files of texts have their batches under their schemas
pub texts_under : (texts : List (List ℕ)) (files : List File) → AllZip IsTextOf texts files → AllByRecursion (λ f. AreUnder f.fields f.batches) files
texts_under [] [] read = tt
texts_under [] (f ∷ files) read = absurd read
texts_under (t ∷ texts) [] read = absurd read
texts_under (t ∷ texts) (f ∷ files) read = (read.0.1, texts_under texts files read.1)

-- what stands of a fault that isn't want of memory
pub reported_stands : (text : List ℕ) (e : JsonFault) → (e.kind ≡ wanting → ⊥) → Tells (BytesFault text) e → BytesFault text e.kind e.path
reported_stands text e other (stands s) = s
reported_stands text e other (wants is) = absurd (other (ap (λ (f : JsonFault). f.kind) is))

pub reported_stops : (texts : List (List ℕ)) (old files : List File) (rest later : List Parsed) (e : JsonFault) (place : ℕ) (reported : RunFault) → AddsSoFar texts old files rest → rest ≡ Err e ∷ later → place ≡ length files
    → (reported ≡ NoMemory) ⊎ ((e.kind ≡ wanting → ⊥) × (reported ≡ OfFile place (Json e))) → OrMemory (StopsParsing texts (length old)) reported
reported_stops texts old files rest later e place reported so_far next here (inl is) = inl is
reported_stops texts old files rest later e place reported so_far next here (inr is) =
    let s = split texts so_far.added rest so_far.parsed in
    let first = first_of s.1 (Err e) later (subst (AllZip IsParsed s.1) next s.4) in
    inr (
      place,
      e,
      is.1,
      record {
        front = s.0;
        text = first.0;
        rest = first.1;
        files = so_far.added;
        is = s.2 ∙ ap (λ l. s.0 ++ l) first.2;
        read = s.3;
        place = omega (arith, here, ap (λ l. length l) so_far.files_are, length-append old so_far.added, AllZip-long _ s.0 so_far.added s.3);
        stands = reported_stands first.0 e is.0 first.3;
      },
    )

-- nothing is left: all were added
pub AddsSoFar-whole : (texts : List (List ℕ)) (old files : List File) (rest : List Parsed) → AddsSoFar texts old files rest → length rest ≡ 0 → AddsFiles texts old files
AddsSoFar-whole texts old files rest so_far none =
    let s = split texts so_far.added rest so_far.parsed in
    let all : texts ≡ s.0 = s.2 ∙ ap (λ l. s.0 ++ l) (nil_from_length s.1 (omega (arith, none, AllZip-long _ s.1 rest s.4))) ∙ append-nil s.0 in
    (so_far.added, so_far.files_are, subst (λ ts. AllZip IsTextOf ts so_far.added) (sym all) s.3)
