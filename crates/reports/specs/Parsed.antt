-- What the texts of files are read as, and which fault of theirs is reported.
use Rattle.std.specs.Prelude.{◌≡◌, ◌+◌, ◌++◌, ◌∷◌, ℕ, List, MatchResult, Result, length}
use Rattle.std.specs.List.{AllZip}
use Rattle.arrays.specs.File.{File}
use Rattle.arrow_json.specs.Prelude.{AreUnder, BytesFault, JsonFault, Reads, Tells, file_of}
use Rattle.reports.specs.declared.run_fault.FileFault.TheVariants.{Json}
use Rattle.reports.specs.declared.run_fault.RunFault.{RunFault}
use Rattle.reports.specs.declared.run_fault.RunFault.TheVariants.{OfFile}

-- The text is read as the file, each of whose batches is under its schema.
abbrev pub IsTextOf : List ℕ → File → Type 0
IsTextOf text f = Reads text (file_of f) × AreUnder f.fields f.batches

-- The text was read as a file, or has this fault.
abbrev pub IsParsed : List ℕ → Result File JsonFault → Type 0
IsParsed text parsed = MatchResult parsed (IsTextOf text) (Tells (BytesFault text))

-- The files of the texts came behind those that were there.
abbrev pub AddsFiles : List (List ℕ) → List File → List File → Type 0
AddsFiles texts old new = (files : List File) × (new ≡ old ++ files) × AllZip IsTextOf texts files

-- A text that is no file comes behind some that are, and behind so many files.
pub record IsFirstUnread (texts : List (List ℕ)) (before file : ℕ) (fault : JsonFault) : Type 0 where
  pub front : List (List ℕ)
  pub text : List ℕ
  pub rest : List (List ℕ)
  pub files : List File
  pub is : texts ≡ front ++ text ∷ rest
  pub read : AllZip IsTextOf front files
  pub place : file ≡ before + length front
  pub stands : BytesFault text fault.kind fault.path

-- The first text that is no file, behind so many files, has this fault.
abbrev pub StopsParsing : List (List ℕ) → ℕ → RunFault → Type 0
StopsParsing texts before fault = (file : ℕ) × (f : JsonFault) × (fault ≡ OfFile file (Json f)) × IsFirstUnread texts before file f
