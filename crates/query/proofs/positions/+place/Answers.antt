use Rattle.std.proofs.Common.{◌∙◌, map, ap, sym}
use Rattle.types.specs.Shape.{fields_of}
use Rattle.query.specs.Prelude.{place_in, renamed, tree_of}
use Rattle.query.proofs.ResolveLemmas.{renamed-Op}
use Rattle.query.proofs.positions.+place.Goals as goal

pub placed-returns-in_ok-all_placed-in-Op : goal.placed-returns-in_ok-all_placed-in-Op
placed-returns-in_ok-all_placed-in-Op t c =
    let at = place_in (fields_of c.args.fields.now) in
    renamed-Op at c.in-Op.op c.in-Op.operands c.in_ok-all_placed-in-Op.field-0
    (c.in_ok-all_placed-in-Op.ensures ∙ ap (λ xs. map (renamed at) (map tree_of xs)) c.deref-in-Op.ensures.value)
    ∙ ap (λ e. renamed at (tree_of e)) (sym c.in-Op.is)
