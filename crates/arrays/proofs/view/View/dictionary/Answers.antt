use Rattle.std.proofs.Common.{◌∙◌, ap, sym, option_map}
use Rattle.std.specs.Arc.{arc_value}
use Rattle.layout.specs.Prelude.{checked_texts, entries_of}
use Rattle.arrays.proofs.DictionaryViews.{codes_of_view}
use Rattle.arrays.proofs.view.View.dictionary.Goals as goal

pub unwrap-requires : goal.unwrap-requires
unwrap-requires c = (codes_of_view c.self.inside c.args.self.now c.self.view_is c.requires c.self.invariant.lawful c.self.invariant.within).there

pub returns : goal.returns
returns c =
    let there = codes_of_view c.self.inside c.args.self.now c.self.view_is c.requires c.self.invariant.lawful c.self.invariant.within in
    ap (λ o. entries_of (option_map checked_texts (option_map (λ w. arc_value w.now) o))) (sym c.unwrap.ensures) ∙ there.entries
