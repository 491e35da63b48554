use Rattle.std.proofs.Common.{◌≡◌, ◌∙◌, ◌<◌, ap, arith, get_or, length, subst, sym}
use Rattle.std.specs.Vec.{vec_len}
use Rattle.std.proofs.Math.Nat.{pos_of_ne-zero}
use Rattle.std.proofs.lemmas.Bool.{eqb-false}
use Rattle.keys.specs.Keys.{AreIds}
use Rattle.keys.proofs.MemoLemmas.{one_key, resized}
use Rattle.keys.proofs.rows.intern_alike.Goals as goal

pub returns-clause-keys : goal.returns-clause-keys
returns-clause-keys c =
    let rows = c.args.rows.now in
    let some : 0 < length rows = pos_of_ne-zero (eqb-false (length rows) 0 (sym c.is_empty.ensures ∙ c.if-is_empty.false)) in
    (one_key c.args.keys.now c.intern_row.new.self c.args.columns.now.by.now c.args.columns.now.batch.now.columns rows c.in_ok-id.id (get_or rows 0 0) c.requires.none some
    c.in_ok-id.ensures.keys c.in_ok-id.ensures.id).0

pub returns-clause-ids : goal.returns-clause-ids
returns-clause-ids c =
    let rows = c.args.rows.now in
    let some : 0 < length rows = pos_of_ne-zero (eqb-false (length rows) 0 (sym c.is_empty.ensures ∙ c.if-is_empty.false)) in
    let none : vec_len c.args.ids.now ≡ 0 = omega (arith, c.args.ids.now.ok.0, ap length c.requires.empty) in
    subst (AreIds c.intern_row.new.self _) (sym (c.in_ok-resize.ensures.items ∙ resized c.args.ids.now.items (length rows) (vec_len c.args.ids.now) c.in_ok-id.id c.requires.empty none))
    (one_key c.args.keys.now c.intern_row.new.self c.args.columns.now.by.now c.args.columns.now.batch.now.columns rows c.in_ok-id.id (get_or rows 0 0) c.requires.none some
    c.in_ok-id.ensures.keys c.in_ok-id.ensures.id).1
