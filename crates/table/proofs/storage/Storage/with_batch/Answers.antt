use Rattle.table.proofs.PutLemmas.{put-shared, shared-few, shared-moved}
use Rattle.table.proofs.storage.Storage.with_batch.Goals as goal

pub put_in-requires-clause-few : goal.put_in-requires-clause-few
put_in-requires-clause-few c =
    shared-few c.args.self.now c.in_ok-storage.storage c.reserve.new.self c.args.addition.now c.in_ok-share.field-0 c.in_ok-storage.ensures c.reserve.ensures.same c.in_ok-share.ensures.batch
    c.requires.few

pub put_in-requires-clause-moved : goal.put_in-requires-clause-moved
put_in-requires-clause-moved c =
    shared-moved c.args.self.now c.in_ok-storage.storage c.reserve.new.self c.args.addition.now c.in_ok-share.field-0 c.in_ok-storage.ensures c.reserve.ensures.same c.in_ok-share.ensures.batch
    c.in_ok-share.ensures.moved c.requires.moved

pub returns : goal.returns
returns c =
    let new = c.in_ok-share.ensures in
    put-shared c.args.self.now c.in_ok-storage.storage c.reserve.new.self c.args.addition.now c.in_ok-share.field-0 c.in_ok-storage.ensures c.reserve.ensures.same new.batch
    c.put_in.new.self c.put_in.ensures new.pieces new.stats new.dictionaries new.moved new.book
