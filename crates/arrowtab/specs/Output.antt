-- The output of each command.
use Rattle.std.specs.Prelude.{◌≡◌, ℕ, List, []}
use Rattle.table.specs.Prelude.{GroupShape, History, QueryFault, QueryShape}
use Rattle.arrays.specs.Prelude.{FieldShape}
use Rattle.job.specs.Jobs.{text_of_query}
use Rattle.job.specs.declared.jobs.Command.{Command}
use Rattle.job.specs.declared.jobs.Command.TheVariants.{Stats, Schema, Validate, Head, Export, Query}
use Rattle.job.specs.declared.jobs.Output.{Output}
use Rattle.job.specs.declared.jobs.Output.TheVariants.{Lines, Json, Csv}
use Rattle.job.specs.declared.jobs.QuerySource.{QuerySource}
use Rattle.arrow_json.specs.Prelude.{ReadsQueryText}
use Rattle.reports.specs.Prelude.{RefusesGroups, ShowsGroups, exported, first_lines, group_arrays, group_lines, group_records, schema_lines, stats_text}

-- What is shown of a query's groups, by the form of the output.
abbrev pub shown_as : Output → QueryShape (List ℕ) → List GroupShape → List ℕ
shown_as Lines query found = group_lines found
shown_as Json query found = group_arrays found
shown_as Csv query found = group_records query found

-- The text is the output for so many workers, the stored fields and a history.
abbrev pub Prints : Command → ℕ → List FieldShape → History → List ℕ → Type 0
Prints Stats workers fields h text = text ≡ stats_text workers fields h
Prints Schema workers fields h text = text ≡ schema_lines fields
Prints Validate workers fields h text = text ≡ []
Prints (Head count) workers fields h text = text ≡ first_lines count fields h
Prints Export workers fields h text = text ≡ exported fields h
Prints (Query source output) workers fields h text =
    (query : QueryShape (List ℕ)) × ReadsQueryText (text_of_query source) query × ShowsGroups (shown_as output query) query fields h text

-- There is none, since the command's query is refused.
pub record PrintsNothing (command : Command) (fields : List FieldShape) (h : History) (fault : QueryFault) : Type 0 where
  pub source : QuerySource
  pub output : Output
  pub asks : command ≡ Query source output
  pub query : QueryShape (List ℕ)
  pub reads : ReadsQueryText (text_of_query source) query
  pub refuses : RefusesGroups query fields h fault
