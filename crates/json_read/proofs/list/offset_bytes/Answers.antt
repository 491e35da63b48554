use Rattle.std.proofs.Common.{◌≡◌, ◌∙◌, None, Some, [], ◌∷◌, ◌++◌, ap, sym, arith, rules}
use Rattle.std.specs.Int.{w128}
use Rattle.std.specs.Prelude.{FitsSigned}
use Rattle.std.proofs.lemmas.Int.{to_z-of_z}
use Rattle.arrays.specs.Prelude.{bytes_of_number, offset_type}
use Rattle.json_base.specs.Prelude.{integer_of, view}
use Rattle.json_read.specs.JsonList.{SpellsOffset}
use Rattle.json_base.proofs.JsonItems.{each_pushed, each_done}
use Rattle.json_read.proofs.JsonLists.{offset_bytes-push, tells_no_offset}
use Rattle.json_read.proofs.list.offset_bytes.Goals as goal

pub returns-in_default-clause-err : goal.returns-in_default-clause-err
returns-in_default-clause-err c =
    let value = c.index-offsets-index.result in
    let none : integer_of (offset_type c.args.width) (view value) ≡ None = ap (λ t. integer_of t (view value)) (sym c.offset_type-ty.ensures) ∙ sym c.in_default.ensures.value in
    tells_no_offset c.args.width c.args.offsets.now c.loop-index.index value _ none (omega arith) c.index-offsets-index.is c.at.ensures

pub loop-index-preserved : goal.loop-index-preserved
loop-index-preserved c =
    let value = c.index-offsets-index.result in
    let so_far = c.loop-index.invariant in
    let number = c.in-Some.number in
    let spelled : integer_of (offset_type c.args.width) (view value) ≡ Some number = ap (λ t. integer_of t (view value)) (sym c.offset_type-ty.ensures) ∙ sym c.in-Some.ensures.value in
    let fits : FitsSigned w128 number = search rules in
    let grown = rw to_z-of_z at c.in-Ok.ensures.ok in (
      so_far.0 ++ number ∷ [],
      each_pushed (SpellsOffset c.args.width) _ _ _ _ _ so_far.1 (omega arith) c.index-offsets-index.is spelled,
      grown ∙ (ap (λ bytes. bytes ++ bytes_of_number (offset_type c.args.width) number) so_far.2 ∙ sym (offset_bytes-push c.args.width so_far.0 number)),
    )

pub returns-clause-ok : goal.returns-clause-ok
returns-clause-ok c =
    let so_far = c.loop-index.invariant in
    record { numbers = so_far.0; spelled = each_done _ _ _ _ so_far.1 (omega arith); laid = so_far.2 }
