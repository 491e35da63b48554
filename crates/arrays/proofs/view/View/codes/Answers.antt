use Rattle.arrays.proofs.DictionaryViews.{codes_of_view}
use Rattle.arrays.proofs.view.View.codes.Goals as goal

pub invariant_of-result : goal.invariant_of-result
invariant_of-result c =
    let there = codes_of_view c.self.inside c.args.self.now c.self.view_is c.requires c.self.invariant.lawful c.self.invariant.within in
    record {
      lawful = there.lawful;
      within = c.self.invariant.within;
      few = c.self.invariant.few;
    }

pub returns-clause-value : goal.returns-clause-value
returns-clause-value c = (codes_of_view c.self.inside c.args.self.now c.self.view_is c.requires c.self.invariant.lawful c.self.invariant.within).shows

pub returns-clause-items : goal.returns-clause-items
returns-clause-items c = (codes_of_view c.self.inside c.args.self.now c.self.view_is c.requires c.self.invariant.lawful c.self.invariant.within).named

pub returns-clause-within : goal.returns-clause-within
returns-clause-within c = (codes_of_view c.self.inside c.args.self.now c.self.view_is c.requires c.self.invariant.lawful c.self.invariant.within).fit
