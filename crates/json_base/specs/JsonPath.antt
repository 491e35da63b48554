-- Places of a document, and their text: a JSON pointer (RFC 6901).
use Rattle.std.specs.Prelude.{ℕ, List, ◌++◌, codes}
use Rattle.std.specs.List.{flat_map}
use Rattle.std.specs.Fmt.{decimal}
use Rattle.json_base.specs.declared.path.Member.{Member}
use Rattle.json_base.specs.declared.path.Member.TheVariants as member
use Rattle.json_base.specs.declared.path.Step.{Step}
use Rattle.json_base.specs.declared.path.Step.TheVariants as step

-- The names of the members: of files first (Arrow integration testing, "JSON test data format"), then of queries.
abbrev pub member_name : Member → List ℕ
member_name member.Schema = codes "schema"
member_name member.Fields = codes "fields"
member_name member.Name = codes "name"
member_name member.Nullable = codes "nullable"
member_name member.DataType = codes "type"
member_name member.BitWidth = codes "bitWidth"
member_name member.IsSigned = codes "isSigned"
member_name member.Children = codes "children"
member_name member.Dictionary = codes "dictionary"
member_name member.Id = codes "id"
member_name member.IndexType = codes "indexType"
member_name member.Dictionaries = codes "dictionaries"
member_name member.Texts = codes "data"
member_name member.Batches = codes "batches"
member_name member.Count = codes "count"
member_name member.Columns = codes "columns"
member_name member.Validity = codes "VALIDITY"
member_name member.Offset = codes "OFFSET"
member_name member.Data = codes "DATA"
member_name member.Filter = codes "filter"
member_name member.By = codes "by"
member_name member.Aggs = codes "aggs"
member_name member.Column = codes "column"
member_name member.Int = codes "int"
member_name member.Text = codes "text"
member_name member.Op = codes "op"
member_name member.Args = codes "args"
member_name member.Agg = codes "agg"

-- A slash, and the member's name or the item's number.
abbrev pub step_text : Step → List ℕ
step_text (step.Member m) = codes "/" ++ member_name m
step_text (step.Item i) = codes "/" ++ decimal i

abbrev pub pointer : List Step → List ℕ
pointer steps = flat_map step_text steps
