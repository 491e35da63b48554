use Rattle.std.proofs.Common.{◌≡◌, ◌∙◌, ◌<◌, ◌≤◌, ap, arith, get_or, length, sym, take, refl}
use Rattle.std.specs.List.{zip}
use Rattle.std.proofs.lemmas.Option.{slice_get_read}
use Rattle.std.proofs.lemmas.Slice.Zip.{get_or-zip, length-zip}
use Rattle.table.specs.Recoded.{entry_count, shortened}
use Rattle.table.proofs.StorageLemmas.{all_zip-at}
use Rattle.table.proofs.RecodedLemmas.{Written-all, Written-length, Written-more, Written-read}
use Rattle.table.proofs.columns.cut_back.Goals as goal

pub index_mut-requires : goal.index_mut-requires
index_mut-requires c =
    let ds = c.args.dictionaries.now in
    let ps = c.args.pools.now.items in
    let same : length (zip ds ps) ≡ length ps = omega (arith, length-zip ds ps, c.requires.count) in
    let below = c.loop-k-test.true in
    omega (arith, below, c.requires.count, c.loop-k.pools.ok.0, Written-length shortened ps (zip ds ps) same c.loop-k.k c.loop-k.pools.items (omega (arith, below, same, c.requires.count)) c.loop-k.invariant)

pub cut_back-requires : goal.cut_back-requires
cut_back-requires c =
    let ds = c.args.dictionaries.now in
    let ps = c.args.pools.now.items in
    let k = c.loop-k.k in
    let pool = c.index_mut.result.now in
    let same : length (zip ds ps) ≡ length ps = omega (arith, length-zip ds ps, c.requires.count) in
    let inside : k < length (zip ds ps) = omega (arith, c.loop-k-test.true, same, c.requires.count) in
    let read : pool ≡ get_or ps k pool = c.index_mut.ensures.value ∙ Written-read shortened ps (zip ds ps) same k c.loop-k.pools.items pool inside c.loop-k.invariant in
    let at = all_zip-at (λ d pool. entry_count d ≤ length pool) ds ps k c.index-dictionaries-k.result pool c.requires.within
    (slice_get_read ds (length ds) k c.index-dictionaries-k.result refl c.loop-k-test.true c.index-dictionaries-k.is)
    (slice_get_read ps (length ps) k pool refl (omega (arith, inside, same)) read) in
    omega (arith, at, c.entry_count.ensures)

pub loop-k-preserved : goal.loop-k-preserved
loop-k-preserved c =
    let ds = c.args.dictionaries.now in
    let ps = c.args.pools.now.items in
    let k = c.loop-k.k in
    let d = c.index-dictionaries-k.result in
    let pool = c.index_mut.result.now in
    let same : length (zip ds ps) ≡ length ps = omega (arith, length-zip ds ps, c.requires.count) in
    let inside : k < length (zip ds ps) = omega (arith, c.loop-k-test.true, same, c.requires.count) in
    let read : pool ≡ get_or ps k pool = c.index_mut.ensures.value ∙ Written-read shortened ps (zip ds ps) same k c.loop-k.pools.items pool inside c.loop-k.invariant in
    Written-more shortened ps (zip ds ps) same k c.loop-k.pools.items (d, pool) c.cut_back.new.self inside c.loop-k.invariant
    (c.cut_back.ensures ∙ ap (λ n. take n pool) c.entry_count.ensures
    ∙ ap (λ o. take (entry_count o) pool) c.index-dictionaries-k.is
    ∙ ap (λ p. take (entry_count (get_or ds k d)) p) read
    ∙ ap shortened (sym (get_or-zip ds ps k (d, pool) c.loop-k-test.true (omega (arith, inside, same)))))

pub returns : goal.returns
returns c =
    let ds = c.args.dictionaries.now in
    let ps = c.args.pools.now.items in
    let same : length (zip ds ps) ≡ length ps = omega (arith, length-zip ds ps, c.requires.count) in
    Written-all shortened ps (zip ds ps) same c.loop-k.k c.loop-k.pools.items (omega (arith, same, c.requires.count, c.loop-k-test.false)) c.loop-k.invariant
