use Rattle.arrays.proofs.DictionaryViews.{dict_kind, some_text, text_kind}
use Rattle.arrays.proofs.view.View.text_at.Goals as goal

pub text_as-requires-clause-text : goal.text_as-requires-clause-text
text_as-requires-clause-text c = text_kind c.self.inside c.args.self.now c.in-Text.width c.self.view_is c.in-Text.is

pub entry_at-requires-clause-dict : goal.entry_at-requires-clause-dict
entry_at-requires-clause-dict c = dict_kind c.self.inside c.args.self.now c.self.view_is c.in-Dict.is

pub unreachable-requires : goal.unreachable-requires
unreachable-requires c = some_text c.self.inside c.args.self.now c.self.view_is c.in_default.not-Text c.in_default.not-Dict c.requires.text
