use Rattle.std.proofs.Common.{◌≡◌, ◌∙◌, ◌≤◌, length, None, sym, ap, subst, arith, rules}
use Rattle.std.specs.Arc.{arc_value}
use Rattle.std.specs.List.{All}
use Rattle.arrays.specs.Prelude.{Seen, batch_fault}
use Rattle.json_stream.proofs.ReadBatches.{lawful_batch}
use Rattle.json_stream.proofs.batch.batch_of.Goals as goal

pub under-requires : goal.under-requires
under-requires c =
    let columns = c.args.columns.items in
    let many : c.len-2.result ≡ length (arc_value c.args.schema.now) = c.len-2.ensures ∙ ap length c.deref.ensures in
    let len : length columns ≡ length (arc_value c.args.schema.now) = omega (arith, many) in
    let even : All (λ (s : Seen). length s.items ≡ c.args.rows) columns = search rules in
    let small : c.args.rows ≤ 2147483647 = omega arith in
    let named : arc_value c.in-Ok.schema ≡ arc_value c.args.schema.now = c.in-Ok.ensures.cases in
    subst (λ s. batch_fault s c.args.rows columns ≡ None) (sym named) (lawful_batch (arc_value c.args.schema.now) c.requires.0 c.requires.1 columns c.args.rows c.requires.2 len even small)
