use Rattle.std.proofs.Common.{◌≡◌, ◌∙◌, ◌<◌, [], ap, arith, get_or, length, subst}
use Rattle.std.specs.Arc.{arc_value}
use Rattle.std.specs.Prelude.{slice_get, vec_len}
use Rattle.std.specs.declared.alloc.Global.{Global}
use Rattle.std.specs.declared.vec.Vec.{Vec}
use Rattle.std.proofs.lemmas.Option.{slice_get-get_or, slice_get_read}
use Rattle.answers.specs.Prelude.{ColumnStats}
use Rattle.table.specs.Contents.{Contents}
use Rattle.table.proofs.StorageLemmas.{length-pieces, length-stats, piece-at, stats-at}
use Rattle.table.proofs.version.Version.batch_stats.Goals as goal

pub get-requires : goal.get-requires
get-requires c =
    omega (arith, c.requires.batch, length-pieces c.storage.result.now c.storage.ensures.lawful, ap (λ (s : Contents). length s.batches) c.storage.ensures.shown)

pub index-requires : goal.index-requires
index-requires c =
    let storage = c.storage.result.now in
    let tables = c.args.self.now.batches in
    let at = ap (λ (s : Contents). slice_get s.batches c.args.b) c.storage.ensures.shown ∙ slice_get-get_or tables c.args.b [] c.requires.batch in
    let are = piece-at storage c.storage.ensures.lawful c.args.b (get_or tables c.args.b []) c.get.result.now at c.get.ensures in
    let count = length-stats (arc_value storage.schema) (get_or tables c.args.b []) (arc_value c.get.result.now).items are in
    let fields = ap (λ (s : Contents). length s.fields) c.storage.ensures.shown in
    let same = ap (λ (v : Vec ColumnStats Global). vec_len v) c.deref.ensures in
    omega (arith, c.requires.column, count, fields, same, (arc_value c.get.result.now).ok.0)

pub returns : goal.returns
returns c =
    let storage = c.storage.result.now in
    let tables = c.args.self.now.batches in
    let at = ap (λ (s : Contents). slice_get s.batches c.args.b) c.storage.ensures.shown ∙ slice_get-get_or tables c.args.b [] c.requires.batch in
    let stats = arc_value c.get.result.now in
    let are = piece-at storage c.storage.ensures.lawful c.args.b (get_or tables c.args.b []) c.get.result.now at c.get.ensures in
    let count = length-stats (arc_value storage.schema) (get_or tables c.args.b []) stats.items are in
    let within : c.args.k < stats.len = omega (arith, c.requires.column, count, ap (λ (s : Contents). length s.fields) c.storage.ensures.shown, stats.ok.0) in
    let read = subst (λ (v : Vec ColumnStats Global). c.index.result.now ≡ get_or v.items c.args.k c.index.result.now) c.deref.ensures c.index.ensures in
    let one = slice_get_read stats.items stats.len c.args.k c.index.result.now stats.ok.0 within read in
    λ f named.
    stats-at (arc_value storage.schema) (get_or tables c.args.b []) stats.items c.args.k f c.index.result.now are
    (ap (λ (s : Contents). slice_get s.fields c.args.k) c.storage.ensures.shown ∙ named) one
