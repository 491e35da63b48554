use Rattle.std.proofs.Common.{◌∙◌, Option, ap, is_some, option_map, subst, sym}
use Rattle.std.specs.Arc.{arc_value}
use Rattle.std.specs.declared.alloc.Global.{Global}
use Rattle.std.specs.declared.sync.Arc.{Arc}
use Rattle.arrays.specs.Prelude.{Seen, over}
use Rattle.arrays.specs.Kind as kind
use Rattle.arrays.proofs.ChildLemmas.{same_kinds}
use Rattle.compaction.specs.Columns.{IsOver}
use Rattle.compaction.proofs.JoinedLemmas.{is-over}
use Rattle.compaction.proofs.dictionaries.column_over.Goals as goal

pub with_dictionary-requires-clause-kind : goal.with_dictionary-requires-clause-kind
with_dictionary-requires-clause-kind c = same_kinds c.args.column.now.kind kind.dict (sym c.requires.encoded ∙ ap (λ (o : Option (Arc Seen Global)). is_some (option_map (λ (w : Arc Seen Global). arc_value w) o)) c.in-Some.is)

pub returns-in_ok-with_dictionary-in-Some-clause-over : goal.returns-in_ok-with_dictionary-in-Some-clause-over
returns-in_ok-with_dictionary-in-Some-clause-over c =
    let s = c.args.column.now in
    let made = c.in_ok-with_dictionary-in-Some.field-0 in
    let dict = same_kinds s.kind kind.dict (sym c.requires.encoded ∙ ap (λ (o : Option (Arc Seen Global)). is_some (option_map (λ (w : Arc Seen Global). arc_value w) o)) c.in-Some.is) in
    subst (λ (o : Option (Arc Seen Global)). IsOver (option_map (λ (w : Arc Seen Global). arc_value w) o) s made) (sym c.in-Some.is)
    (is-over (arc_value c.in-Some.words) s made dict (c.in_ok-with_dictionary-in-Some.ensures ∙ ap (over s) c.in_ok-clone-in-Some.ensures.cases))
