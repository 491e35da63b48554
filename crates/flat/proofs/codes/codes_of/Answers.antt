use Rattle.std.specs.Int.{w128}
use Rattle.std.specs.Int.RustNames.{FitsSigned}
use Rattle.std.proofs.Common.{rules}
use Rattle.std.proofs.lemmas.Int.{to_z-of_z}
use Rattle.flat.proofs.CodeLemmas.{codes_more}
use Rattle.flat.proofs.codes.codes_of.Goals as goal

pub loop-j-preserved : goal.loop-j-preserved
loop-j-preserved g c =
    let fits : FitsSigned w128 c.code_at.result = search rules in
    let pushed = simp to_z-of_z at c.in_ok-push_number.ensures.ok in
    codes_more g.T.Integer.ty c.args.bytes.now c.loop-j.j c.loop-j.codes.items c.push_number.new.bytes.items c.code_at.result c.loop-j.invariant c.code_at.ensures.value pushed
