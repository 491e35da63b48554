-- What a node holds, and what is wrong with the node alone.
use Rattle.std.specs.Prelude.{ℕ, ◌==◌, List, [], ◌∷◌, not, Option, Some, None, is_none, if◌then◌else◌}
use Rattle.std.specs.Bool.{then_some}
use Rattle.std.specs.Option.{option_and_then}
use Rattle.std.specs.Str.{is_utf8}
use Rattle.arrays.specs.Prelude.{first}
use Rattle.flat.specs.Format.{format_content}
use Rattle.flat.specs.declared.content.Content.{Content}
use Rattle.flat.specs.declared.content.Content.TheVariants as content
use Rattle.flat.specs.declared.fault.FlatFault.{FlatFault}
use Rattle.flat.specs.declared.fault.FlatFault.TheVariants.{ChildrenDiffer, NameNotUtf8, UnknownFormat}
use Rattle.flat.specs.declared.node.Node.{Node}

-- A list has one child, another type none.
abbrev pub child_count : Content → ℕ
child_count (content.Lists w) = 1
child_count c = 0

-- With a dictionary, integers are its indices; nothing else has one.
abbrev pub with_dictionary : Content → Option Content
with_dictionary (content.Int t) = Some (content.Codes t)
with_dictionary c = None

abbrev pub content_with : ℕ → ℕ → Content → Option Content
content_with children dictionary c =
    if not (children == child_count c) then None else
    if dictionary == 0 then Some c else with_dictionary c

-- What a node holds, none where its format is unknown, or its children or its dictionary aren't those of its format.
abbrev pub content_of : Node → Option Content
content_of n = option_and_then (content_with n.children n.dictionary) (format_content n.format.now)

-- The faults of what it holds, and of the node alone.
abbrev pub content_faults : ℕ → Node → List (Option FlatFault)
content_faults column n =
    then_some (is_none (format_content n.format.now)) (UnknownFormat column)
    ∷ then_some (is_none (content_of n)) (ChildrenDiffer column)
    ∷ []

abbrev pub node_fault : ℕ → Node → Option FlatFault
node_fault column n = first (then_some (not (is_utf8 n.name.now)) (NameNotUtf8 column) ∷ content_faults column n)
