use Rattle.std.proofs.Common.{◌∙◌, ap, sym}
use Rattle.std.proofs.lemmas.Result.{IfOk-weaker}
use Rattle.arrays.specs.Prelude.{kind_of_shape}
use Rattle.arrays.proofs.ShapeLemmas.{kind_of_shape-shape_of}
use Rattle.flat.proofs.parts.copy_of.Goals as goal

pub returns : goal.returns
returns c = IfOk-weaker c.copy.result _ _ (λ t same. sym (kind_of_shape-shape_of t) ∙ ap kind_of_shape same ∙ kind_of_shape-shape_of c.args.ty.now) c.copy.ensures
