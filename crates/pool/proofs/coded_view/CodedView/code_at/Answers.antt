use Rattle.std.proofs.Common.{◌∙◌, ◌<◌, Some, ap, sym, subst, length, pos}
use Rattle.arrays.specs.Prelude.{int, looked_up}
use Rattle.pool.specs.CodedViews.{HasCodes}
use Rattle.pool.proofs.CodedLemmas.{coded_slot, named_slot, null_slot}
use Rattle.pool.proofs.coded_view.CodedView.code_at.Goals as goal

pub returns-then-not-is_valid-clause-item : goal.returns-then-not-is_valid-clause-item
returns-then-not-is_valid-clause-item c =
    let bytes = c.self.inside.numbers.now in
    let validity = c.self.inside.validity in
    let has = subst (HasCodes bytes validity) c.self.view_is c.self.invariant in
    null_slot bytes validity c.args.self.now c.args.i has c.requires (sym c.is_valid.ensures ∙ c.if-not-is_valid.true)

pub natural_at-requires-clause-counted : goal.natural_at-requires-clause-counted
natural_at-requires-clause-counted c =
    let bytes = c.self.inside.numbers.now in
    let validity = c.self.inside.validity in
    let has = subst (HasCodes bytes validity) c.self.view_is c.self.invariant in
    (coded_slot bytes validity c.args.self.now c.args.i has c.requires (sym c.is_valid.ensures ∙ c.if-not-is_valid.false)).counted

pub returns : goal.returns
returns c =
    let s = c.args.self.now in
    let bytes = c.self.inside.numbers.now in
    let validity = c.self.inside.validity in
    let has = subst (HasCodes bytes validity) c.self.view_is c.self.invariant in
    let valid = sym c.is_valid.ensures ∙ c.if-not-is_valid.false in
    record {
      item = named_slot bytes validity s c.args.i has c.requires valid ∙ ap (λ n. Some (looked_up s.entries.items (int (pos n)))) (sym c.natural_at.ensures.number);
      entry = subst (λ n. n < length s.entries.items) (sym c.natural_at.ensures.number) (coded_slot bytes validity s c.args.i has c.requires valid).below;
    }
