use Rattle.std.proofs.Common.{◌∙◌, ap, arith, option_map, subst, sym}
use Rattle.std.specs.Prelude.{All}
use Rattle.select.specs.Prelude.{IsPick, index_at, picked, rows_named}
use Rattle.select.specs.declared.fault.SelectFault.TheVariants.{IndexOutOfRange}
use Rattle.select.proofs.NamedLemmas.{Taken-named, index_there, names-more}
use Rattle.select.proofs.SelectionLemmas.{Taken-all, Taken-inside, Taken-outside}
use Rattle.select.proofs.indices.Indices.of.Goals as goal
use Rattle.arrays.specs.Prelude.{most_slots}

pub returns-in-Some-clause-err : goal.returns-in-Some-clause-err
returns-in-Some-clause-err g c =
    let t = g.T.Integer.ty in
    let s = c.args.indices.now in
    let row = c.in-Some.row in
    let numbers = c.ints-numbers.result in
    let has = c.ints-numbers.ensures in
    let least = c.in-Some.ensures.some in
    let before = Taken-named t numbers.values.now numbers.validity s c.args.len row has.values has.validity (omega (arith, least.within, has.slots)) least.before in
    ap (option_map (λ row. IndexOutOfRange row))
    (Taken-outside c.args.len s.items row (index_at t numbers.values.now numbers.validity row) (rows_named t numbers.values.now numbers.validity row) before
    (index_there t numbers.values.now numbers.validity s row has.values has.validity (omega (arith, least.within, has.slots))) least.outside)

pub new-requires : goal.new-requires
new-requires g c =
    let numbers = c.ints-numbers.result in
    names-more g.T.Integer.ty numbers.values.now numbers.validity c.args.len most_slots numbers.slots c.requires.short c.in-None.ensures.none

pub returns-in-None : goal.returns-in-None
returns-in-None g c =
    let t = g.T.Integer.ty in
    let s = c.args.indices.now in
    let numbers = c.ints-numbers.result in
    let has = c.ints-numbers.ensures in
    let named = rows_named t numbers.values.now numbers.validity numbers.slots in
    let all = Taken-named t numbers.values.now numbers.validity s c.args.len numbers.slots has.values has.validity (omega (arith, has.slots)) c.in-None.ensures.none in
    record {
      inside = Taken-inside c.args.len s.items numbers.slots named all (omega (arith, has.slots));
      rows = λ items. ap (picked items) c.new.ensures ∙ Taken-all c.args.len s.items items numbers.slots named all (omega (arith, has.slots));
      within = subst (All (IsPick c.args.len)) (sym c.new.ensures) all.within;
      err = tt;
    }
