use Rattle.std.proofs.Common.{◌≡◌, true, refl, rules}
use Rattle.std.specs.Int.{w128}
use Rattle.std.specs.Prelude.{FitsSigned}
use Rattle.std.proofs.lemmas.Int.{to_z-of_z}
use Rattle.arrays.specs.Prelude.{is_of_type, offset_type}
use Rattle.json_stream.proofs.ListLemmas.{offset_taken}
use Rattle.json_stream.proofs.offsets.OffsetsItemVisitor.visit.Goals as goal

pub returns-in-Ok-clause-ok : goal.returns-in-Ok-clause-ok
returns-in-Ok-clause-ok c =
    let read = c.in-Some.ensures.reads in
    let number = c.in-Some.offset.value in
    let fits : FitsSigned w128 number = search rules in
    let held : is_of_type (offset_type c.args.self.now.width) number ≡ true = search rules in
    let grown = rw to_z-of_z at c.in-Ok.ensures.ok in
    (read.0, read.2 c.args._depth, λ first ds h. (h.0, offset_taken _ _ ds read.0 number c.args.self.now _ h.0 read.1 held grown refl h.1))
