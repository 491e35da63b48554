use Rattle.std.proofs.Common.{◌≡◌, true, ap}
use borrow.Author.Count.{below_more}
use Rattle.arrays.specs.Prelude.{is_code, item_of}
use Rattle.select.specs.Named.{index_at}
use Rattle.select.proofs.indices.first_outside.Goals as goal

pub returns-then-not-names_row-clause-some : goal.returns-then-not-names_row-clause-some
returns-then-not-names_row-clause-some g c =
    record {
      within = c.loop-i-test.true;
      before = c.loop-i.invariant;
      outside = cc (c.if-not-names_row.ensures, ap (λ z. is_code c.args.len (item_of z)) c.get.ensures.value);
    }

pub loop-i-preserved : goal.loop-i-preserved
loop-i-preserved g c =
    let numbers = c.args.numbers.now in
    let i = c.loop-i.i in
    let here : is_code c.args.len (index_at g.T.Integer.ty numbers.values.now numbers.validity i) ≡ true =
    cc (c.if-not-names_row.ensures, ap (λ z. is_code c.args.len (item_of z)) c.get.ensures.value) in
    record { each = below_more (λ j. is_code c.args.len (index_at g.T.Integer.ty numbers.values.now numbers.validity j) ≡ true) i c.loop-i.invariant.each here }
