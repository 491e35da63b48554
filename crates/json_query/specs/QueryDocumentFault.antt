-- What can be wrong with a query.
use Rattle.std.specs.Prelude.{ℕ, List}
use Rattle.json_base.specs.declared.path.Step.{Step}
use Rattle.json_base.specs.declared.fault.JsonFaultKind.{JsonFaultKind}
use Rattle.json_query.specs.Reading.{MayReport}
use Rattle.json_query.specs.QueryDocument.{query_text}

-- A fault of the bytes as the text of a query.
abbrev pub QueryBytesFault : List ℕ → JsonFaultKind → List Step → Type 0
QueryBytesFault bytes = MayReport (query_text bytes)
