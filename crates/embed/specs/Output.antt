-- What is printed of files, and the line of a fault.
use Rattle.std.specs.Prelude.{◌≡◌, ◌⊎◌, ℕ, List, [], ⊤}
use Rattle.std.specs.Fmt.{decimal}
use Rattle.arrays.specs.Prelude.{FieldShape}
use Rattle.arrow_json.specs.Prelude.{ReadsQueryText}
use Rattle.table.specs.Prelude.{History, QueryShape}
use Rattle.reports.specs.Prelude.{IsUnanswered, IsUnreadQuery, PrintsGroups, exported, line_under, schema_lines, stats_text}
use Rattle.reports.specs.declared.run_fault.RunFault.{RunFault}
use Rattle.reports.specs.declared.run_fault.RunFault.TheVariants.{OfFile}
use Rattle.embed.specs.Loaded.{HoldsFiles}
use Rattle.embed.specs.Refused.{StopsTexts}

-- What is said holds of the table of these texts' files.
pub record OfTable (texts : List (List ℕ)) (says : List FieldShape → History → Type 0) : Type 0 where
  pub fields : List FieldShape
  pub history : History
  pub holds : HoldsFiles texts fields history
  pub is : says fields history

-- All files can be loaded into one table.
abbrev pub AreLoadable : List (List ℕ) → Type 0
AreLoadable texts = OfTable texts (λ fields h. ⊤)

-- The text is what `stats` prints of them, for one worker.
abbrev pub IsStats : List (List ℕ) → List ℕ → Type 0
IsStats texts text = OfTable texts (λ fields h. text ≡ stats_text 1 fields h)

-- The text is what `schema` prints of them.
abbrev pub IsSchema : List (List ℕ) → List ℕ → Type 0
IsSchema texts text = OfTable texts (λ fields h. text ≡ schema_lines fields)

-- The text is what `export` prints of them.
abbrev pub IsExport : List (List ℕ) → List ℕ → Type 0
IsExport texts text = OfTable texts (λ fields h. text ≡ exported fields h)

-- The text is what `query` prints of them, for the query that the bytes are read as.
abbrev pub IsAnswered : List ℕ → List (List ℕ) → List ℕ → Type 0
IsAnswered query texts text = (shape : QueryShape (List ℕ)) × ReadsQueryText query shape × OfTable texts (λ fields h. PrintsGroups shape fields h text)

-- The query that the bytes are read as is refused over them.
abbrev pub IsQueryRefused : List ℕ → List (List ℕ) → RunFault → Type 0
IsQueryRefused query texts fault = (shape : QueryShape (List ℕ)) × ReadsQueryText query shape × OfTable texts (λ fields h. IsUnanswered shape fields h fault)

-- The bytes are read as a query.
abbrev pub IsQueryText : List ℕ → Type 0
IsQueryText query = (shape : QueryShape (List ℕ)) × ReadsQueryText query shape

-- The fault of a query over files: of its bytes; over their table; or of the files, where the bytes are read.
abbrev pub StopsQuery : List ℕ → List (List ℕ) → RunFault → Type 0
StopsQuery query texts fault = IsUnreadQuery query fault ⊎ (IsQueryRefused query texts fault ⊎ (IsQueryText query × StopsTexts texts fault))

-- The name of a fault's file, if it is one of a file: its number, from 0.
abbrev pub file_name : RunFault → List ℕ
file_name (OfFile file fault) = decimal file
file_name fault = []

-- The line of a fault.
abbrev pub line_of_fault : RunFault → List ℕ
line_of_fault fault = line_under (file_name fault) fault
