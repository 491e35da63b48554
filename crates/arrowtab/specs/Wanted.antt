-- What a job wants to be printed, its query being read.
use Rattle.std.specs.Prelude.{◌≡◌, ℕ, List, []}
use Rattle.arrays.specs.Prelude.{FieldShape}
use Rattle.arrow_json.specs.Prelude.{JsonFault, ReadsQueryText}
use Rattle.job.specs.Jobs.{text_of_query}
use Rattle.job.specs.declared.jobs.Command.{Command}
use Rattle.job.specs.declared.jobs.Command.TheVariants as command
use Rattle.job.specs.declared.jobs.Output.{Output}
use Rattle.table.specs.Prelude.{History, QueryText, named}
use Rattle.reports.specs.Prelude.{IsUnanswered, ShowsGroups, exported, first_lines, schema_lines, stats_text}
use Rattle.arrowtab.specs.Output.{shown_as}
use Rattle.arrowtab.specs.Run.{FailedQuery}
use Rattle.reports.specs.declared.run_fault.RunFault.{RunFault}
use Rattle.reports.specs.declared.run_fault.RunFault.TheVariants.{QueryUnread}
use Rattle.arrowtab.specs.declared.wanted.Wanted.{Wanted}
use Rattle.arrowtab.specs.declared.wanted.Wanted.TheVariants.{Stats, Schema, Nothing, Head, Export, Groups}

-- It is what the command asks for.
abbrev pub IsWanted : Command → Wanted → Type 0
IsWanted command.Stats wanted = wanted ≡ Stats
IsWanted command.Schema wanted = wanted ≡ Schema
IsWanted command.Validate wanted = wanted ≡ Nothing
IsWanted (command.Head count) wanted = wanted ≡ Head count
IsWanted command.Export wanted = wanted ≡ Export
IsWanted (command.Query source output) wanted = (query : QueryText) × (wanted ≡ Groups query output) × ReadsQueryText (text_of_query source) (named query)

-- The command's query isn't read.
abbrev pub IsUnread : Command → RunFault → Type 0
IsUnread command fault = (f : JsonFault) × (fault ≡ QueryUnread f) × FailedQuery command f.kind f.path

-- The text is what is wanted, for so many workers.
abbrev pub PrintsWanted : Wanted → ℕ → List FieldShape → History → List ℕ → Type 0
PrintsWanted Stats workers fields h text = text ≡ stats_text workers fields h
PrintsWanted Schema workers fields h text = text ≡ schema_lines fields
PrintsWanted Nothing workers fields h text = text ≡ []
PrintsWanted (Head count) workers fields h text = text ≡ first_lines count fields h
PrintsWanted Export workers fields h text = text ≡ exported fields h
PrintsWanted (Groups query output) workers fields h text = ShowsGroups (shown_as output (named query)) (named query) fields h text

-- The query that is wanted isn't answered.
abbrev pub IsUnprinted : Wanted → List FieldShape → History → RunFault → Type 0
IsUnprinted wanted fields h fault = (query : QueryText) × (output : Output) × (wanted ≡ Groups query output) × IsUnanswered (named query) fields h fault
