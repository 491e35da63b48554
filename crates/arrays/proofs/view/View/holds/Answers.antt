use Rattle.std.proofs.Common.{◌≡◌, ◌∙◌, false, not, ap, sym, get_or}
use Rattle.std.proofs.lemmas.Option.{get_or_from_slice_get}
use Rattle.layout.specs.Prelude.{Seen, is_null, null}
use Rattle.types.specs.Kind as kind
use Rattle.types.specs.Kind.{same_kind}
use Rattle.arrays.specs.Slot.{holds_at}
use Rattle.arrays.proofs.DictionaryViews.{dict_kind, plain_kind}
use Rattle.arrays.proofs.view.View.holds.Goals as goal

pub code_at-requires-clause-dict : goal.code_at-requires-clause-dict
code_at-requires-clause-dict c = dict_kind c.self.inside c.args.self.now c.self.view_is c.in-Dict.is

pub entries-requires : goal.entries-requires
entries-requires c = dict_kind c.self.inside c.args.self.now c.self.view_is c.in-Dict.is

pub returns-in-Some : goal.returns-in-Some
returns-in-Some c =
    let s = c.args.self.now in
    let code = c.in-Some.code in
    let texts : same_kind c.entries.result.kind kind.dict ≡ false = ap (λ (q : Seen). same_kind q.kind kind.dict) c.entries.ensures in
    c.is_valid.ensures.item texts
    ∙ ap (λ (q : Seen). holds_at q code) c.entries.ensures
    ∙ ap (λ x. not (is_null x)) (sym (get_or_from_slice_get s.items c.args.i (get_or s.entries.items code null) null c.in-Some.ensures.item))

pub returns-in-None : goal.returns-in-None
returns-in-None c =
    ap (λ x. not (is_null x)) (sym (get_or_from_slice_get c.args.self.now.items c.args.i null null c.in-None.ensures.item))

pub returns-in_default : goal.returns-in_default
returns-in_default c = c.is_valid-in_default.ensures.item (plain_kind c.self.inside c.args.self.now c.self.view_is c.in_default.not-Dict)
