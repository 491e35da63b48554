use Rattle.std.proofs.Common.{◌∙◌, ◌+◌, ◌++◌, ap, arith, length, refl}
use Rattle.std.specs.Prelude.{slice_get}
use Rattle.keys.proofs.TextLemmas.{absent_behind, apart_placed, few_placed, pushed_begins, pushed_there}
use Rattle.keys.proofs.key_texts.KeyTexts.add_new.Goals as goal

pub add_new-requires : goal.add_new-requires
add_new-requires c = absent_behind c.args.text.now c.args.self.now.common.now c.args.self.now.own c.requires

pub invariant_of-self : goal.invariant_of-self
invariant_of-self c =
    let s = c.args.self.now in
    let t = c.args.text.now in
    let r = c.add_new.result in
    let is = c.add_new.ensures in
    let few = few_placed t s.own c.add_new.new.self r is.texts is.err in
    record {
      once = apart_placed t s.own c.add_new.new.self r s.common.now is.texts is.err s.once c.requires;
      count = s.count;
      few = (s.few.0, omega (arith, few, c.len.ensures.count, c.len.ensures.small));
    }

pub returns-clause-place : goal.returns-clause-place
returns-clause-place c =
    let s = c.args.self.now in
    let xs = s.common.now in
    let new = c.add_new.new.self in
    ap (λ k. slice_get (xs ++ new) (k + c.len.result)) s.count
    ∙ ap (λ k. slice_get (xs ++ new) (length xs + k)) c.len.ensures.count
    ∙ pushed_there xs s.own new c.args.text.now c.in_ok-add_new.ensures.texts

pub returns-clause-begins : goal.returns-clause-begins
returns-clause-begins c =
    let s = c.args.self.now in
    pushed_begins (s.common.now ++ s.own) s.common.now s.own c.add_new.new.self c.args.text.now refl c.in_ok-add_new.ensures.texts
