use Rattle.std.proofs.Common.{◌≡◌, ◌∙◌, ◌<◌, ap, arith, length, subst, sym}
use Rattle.std.specs.Arc.{arc_value}
use Rattle.std.specs.Prelude.{slice_get, vec_len}
use Rattle.std.specs.declared.alloc.Global.{Global}
use Rattle.std.specs.declared.vec.Vec.{Vec}
use Rattle.std.proofs.lemmas.Option.{slice_get_read}
use Rattle.arrays.specs.Prelude.{Table, column, kind_of_field}
use Rattle.answers.specs.Prelude.{AreStats, ColumnStats}
use Rattle.table.specs.Prelude.{Contents, batches_of, rows, rows_of_batches}
use Rattle.table.proofs.StorageLemmas.{length-stats, rows-shown, stats-at}
use Rattle.table.proofs.version.Version.stats.Goals as goal

pub index-requires : goal.index-requires
index-requires c =
    let storage = c.storage.result.now in
    let count = length-stats (arc_value storage.schema) (rows_of_batches (batches_of storage)) (arc_value storage.stats).items c.storage.ensures.lawful.lawful.statistics in
    let fields = ap (λ (s : Contents). length s.fields) c.storage.ensures.shown in
    let same = ap (λ (v : Vec ColumnStats Global). vec_len v) c.deref.ensures in
    omega (arith, c.requires, count, fields, same, (arc_value storage.stats).ok.0)

pub returns : goal.returns
returns c =
    let storage = c.storage.result.now in
    let is = c.storage.ensures.lawful in
    let stats = arc_value storage.stats in
    let count = length-stats (arc_value storage.schema) (rows_of_batches (batches_of storage)) stats.items is.lawful.statistics in
    let below : c.args.k < stats.len = omega (arith, c.requires, count, ap (λ (s : Contents). length s.fields) c.storage.ensures.shown, stats.ok.0) in
    let read = subst (λ (v : Vec ColumnStats Global). c.index.result.now ≡ Rattle.std.proofs.Common.get_or v.items c.args.k c.index.result.now) c.deref.ensures c.index.ensures in
    let there = slice_get_read stats.items stats.len c.args.k c.index.result.now stats.ok.0 below read in
    λ f at.
    subst (λ (s : Contents). AreStats c.index.result.now (kind_of_field f) (column (rows s.history) c.args.k)) c.storage.ensures.shown
    (subst (λ (t : Table). AreStats c.index.result.now (kind_of_field f) (column t c.args.k)) (sym (rows-shown storage is))
    (stats-at (arc_value storage.schema) (rows_of_batches (batches_of storage)) stats.items c.args.k f c.index.result.now is.lawful.statistics
    (ap (λ (s : Contents). slice_get s.fields c.args.k) c.storage.ensures.shown ∙ at) there))
