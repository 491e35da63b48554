use Rattle.std.proofs.Common.{◌≡◌, ◌∙◌, All, List, Option, ap, length, option_map, subst, sym, true}
use Rattle.std.specs.Arc.{arc_value}
use Rattle.std.specs.declared.alloc.Global.{Global}
use Rattle.std.specs.declared.sync.Arc.{Arc}
use Rattle.arrays.specs.Prelude.{Seen, encoded, is_code}
use Rattle.select.specs.Joined.{is_joined_too_big, joined, kind_of_first}
use Rattle.compaction.specs.Columns.{AreJoinable, IsJoined}
use Rattle.compaction.proofs.JoiningLemmas.{codes-kind, codes-named, dict-kinds, encoded-joined, fits-codes_of, kinds-codes_of}
use Rattle.compaction.proofs.joining.joined_column.Goals as goal

abbrev dictionary : Option (Arc Seen Global) → Option Seen
dictionary o = option_map (λ (w : Arc Seen Global). arc_value w) o

abbrev AreOneKind : List Seen → Type 0
AreOneKind columns = All (λ (s : Seen). s.kind ≡ kind_of_first columns) columns

pub codes_of-requires : goal.codes_of-requires
codes_of-requires c =
    dict-kinds (arc_value c.in-Some.words) c.args.views.now (subst (λ o. AreJoinable (dictionary o) c.args.views.now) c.in-Some.is c.requires)

pub joined_views-requires-clause-kinds : goal.joined_views-requires-clause-kinds
joined_views-requires-clause-kinds c =
    subst AreOneKind (sym (c.deref.ensures.value ∙ c.in_ok-codes-in-Some.ensures.codes)) (kinds-codes_of c.args.views.now c.requires.some)

pub joined_views-requires-clause-fits : goal.joined_views-requires-clause-fits
joined_views-requires-clause-fits c =
    ap (λ (l : List Seen). is_joined_too_big (kind_of_first l) l) (c.deref.ensures.value ∙ c.in_ok-codes-in-Some.ensures.codes)
    ∙ fits-codes_of c.args.views.now c.requires.some c.in_ok-codes-in-Some.ensures.encoded c.requires.few

pub dict-requires-clause-numbers : goal.dict-requires-clause-numbers
dict-requires-clause-numbers c =
    codes-kind c.args.views.now c.in_ok-joined_views-in-Some.field-0 c.requires.some
    (c.in_ok-joined_views-in-Some.ensures ∙ ap (λ (l : List Seen). joined (kind_of_first l) l) (c.deref.ensures.value ∙ c.in_ok-codes-in-Some.ensures.codes))

pub dict-requires-clause-codes : goal.dict-requires-clause-codes
dict-requires-clause-codes c =
    let views = c.args.views.now in
    let codes = c.in_ok-joined_views-in-Some.field-0 in
    subst (λ (w : Seen). All (λ x. is_code (length w.items) x ≡ true) codes.items) (sym c.in_ok-clone-in-Some.ensures.cases)
    (codes-named (arc_value c.in-Some.words) views codes (subst (λ o. AreJoinable (dictionary o) views) c.in-Some.is c.requires) c.in_ok-codes-in-Some.ensures.encoded
    (c.in_ok-joined_views-in-Some.ensures ∙ ap (λ (l : List Seen). joined (kind_of_first l) l) (c.deref.ensures.value ∙ c.in_ok-codes-in-Some.ensures.codes)))

pub returns-in_ok-clone-in-Some : goal.returns-in_ok-clone-in-Some
returns-in_ok-clone-in-Some c =
    let views = c.args.views.now in
    let codes = c.in_ok-joined_views-in-Some.field-0 in
    subst (λ o. IsJoined (dictionary o) views c.dict.result) (sym c.in-Some.is)
    (encoded-joined (arc_value c.in-Some.words) views codes c.dict.result (subst (λ o. AreJoinable (dictionary o) views) c.in-Some.is c.requires) c.in_ok-codes-in-Some.ensures.encoded
    (c.in_ok-joined_views-in-Some.ensures ∙ ap (λ (l : List Seen). joined (kind_of_first l) l) (c.deref.ensures.value ∙ c.in_ok-codes-in-Some.ensures.codes))
    (c.dict.ensures ∙ ap (λ (w : Seen). encoded codes w) c.in_ok-clone-in-Some.ensures.cases))
