use Rattle.std.proofs.Common.{◌+◌, ◌-◌, ◌<◌, ◌^◌, [], Global, List, Vec, arith, map, slice_set, subst, sym, ℕ}
use Rattle.std.proofs.lemmas.Result.{err_from_is_err_and}
use Rattle.arrays.specs.File.{File}
use Rattle.arrowtab.proofs.ReadLemmas.{ReadSoFar, ReadSoFar-added, ReadSoFar-none, ReadSoFar-pushed, ReadSoFar-whole, all_at, all_under, counted, parsing_stops, source_stops, unfailed_before, unfailed_still}
use Rattle.arrowtab.proofs.reading.read_files.Goals as goal
use Rattle.arrowtab.proofs.reading.read_files.Goals.{then-len-workers+in_ok-add_files, else-len-workers}

pub loop-number-init : goal.loop-number-init
loop-number-init g c =
    subst (λ (files : List File). ReadSoFar g.S.Source.remaining g.S.Source.failures c.args.sources.now c.args.sources.now files (map (λ t. t.items) c.new-texts.result.items) 0) (sym c.new-files.ensures.items)
    (subst (λ (texts : List (Vec ℕ Global)). ReadSoFar g.S.Source.remaining g.S.Source.failures c.args.sources.now c.args.sources.now [] (map (λ t. t.items) texts) 0) (sym c.new-texts.ensures.items)
    (ReadSoFar-none g.S.Source.remaining g.S.Source.failures c.args.sources.now))

pub read_whole-requires : goal.read_whole-requires
read_whole-requires g c =
    let at = c.loop-number in
    all_at g.S.Source.remaining g.S.Source.failures c.args.sources.now at.sources _ _ at.number at.invariant (λ s. g.S.Source.failures s < 2 ^ 64 - 1) c.index-sources-number.result c.requires
    (omega (arith, c.loop-number-test.true, at.invariant.same))

-- ---- a source that isn't read

pub returns-in_err-add_files-in-Err-clause-err : goal.returns-in_err-add_files-in-Err-clause-err
returns-in_err-add_files-in-Err-clause-err g c =
    let at = c.loop-number in
    let p = err_from_is_err_and c.from_residual-in_err-add_files-in-Err.result c.from_residual-in_err-add_files-in-Err.ensures.1 in
    rw (p.1, p.2)
    (parsing_stops g.S.Source.remaining g.S.Source.failures c.args.sources.now at.sources at.files.items _ at.number at.invariant _ _ _
    (unfailed_before g.S.Source.remaining g.S.Source.failures c.args.sources.now at.sources at.files.items _ at.number at.invariant c.read_whole.new.source) c.in_err-add_files-in-Err.ensures.err)

pub returns-in-Err-clause-err : goal.returns-in-Err-clause-err
returns-in-Err-clause-err g c =
    let at = c.loop-number in
    source_stops g.S.Source.remaining g.S.Source.failures c.args.sources.now at.sources at.files.items _ at.number at.invariant _ c.index-sources-number.result c.read_whole.new.source _ c.in_ok-add_files-in-Err.ensures.ok c.in-Err.fault c.source_fault.result
    (omega (arith, c.loop-number-test.true, at.invariant.same)) (counted (Vec ℕ Global) _ _ c.in-Err.fault c.in-Err.ensures.count) c.source_fault.ensures

-- ---- a window that is full

pub returns-in_err-add_files-clause-err : goal.returns-in_err-add_files-clause-err
returns-in_err-add_files-clause-err g c =
    let at = c.loop-number in
    let p = err_from_is_err_and c.from_residual-in_err-add_files.result c.from_residual-in_err-add_files.ensures.1 in
    let next = ReadSoFar-pushed g.S.Source.remaining g.S.Source.failures c.args.sources.now (λ t. t.items) at.sources at.files.items at.texts.items c.push.new.self.items at.number c.index-sources-number.result c.read_whole.new.source c.in-Ok.text at.invariant
    (omega (arith, c.loop-number-test.true, at.invariant.same)) c.in_ok-push-in-Ok.ensures.items c.in-Ok.ensures.whole c.in-Ok.ensures.count in
    rw (p.1, p.2)
    (parsing_stops g.S.Source.remaining g.S.Source.failures c.args.sources.now _ at.files.items _ (at.number + 1) next _ _ _
    (unfailed_still g.S.Source.remaining g.S.Source.failures c.args.sources.now _ at.files.items _ (at.number + 1) next) c.in_err-add_files.ensures.err)

pub loop-number-preserved : goal.loop-number-preserved
loop-number-preserved g c =
    let at = c.loop-number in
    let sources = slice_set at.sources at.number c.read_whole.new.source in
    let next = ReadSoFar-pushed g.S.Source.remaining g.S.Source.failures c.args.sources.now (λ t. t.items) at.sources at.files.items at.texts.items c.push.new.self.items at.number c.index-sources-number.result c.read_whole.new.source c.in-Ok.text at.invariant
    (omega (arith, c.loop-number-test.true, at.invariant.same)) c.in_ok-push-in-Ok.ensures.items c.in-Ok.ensures.whole c.in-Ok.ensures.count in
    elim c.if-len-workers.branch [
      | then-len-workers+in_ok-add_files w ↦
          rw (w.files-is, w.texts-is, w.new-texts-then-len-workers.ensures.items)
          (ReadSoFar-added g.S.Source.remaining g.S.Source.failures c.args.sources.now sources at.files.items _ (at.number + 1) next w.add_files-then-len-workers.new.files.items w.in_ok-add_files.ensures.ok)
      | else-len-workers w ↦ rw (w.files-is, w.texts-is) next
    ]

-- ---- the last window

pub returns-in_err-add_files-2-clause-err : goal.returns-in_err-add_files-2-clause-err
returns-in_err-add_files-2-clause-err g c =
    let at = c.loop-number in
    let p = err_from_is_err_and c.from_residual-in_err-add_files-2.result c.from_residual-in_err-add_files-2.ensures.1 in
    rw (p.1, p.2)
    (parsing_stops g.S.Source.remaining g.S.Source.failures c.args.sources.now at.sources at.files.items _ at.number at.invariant _ _ _
    (unfailed_still g.S.Source.remaining g.S.Source.failures c.args.sources.now at.sources at.files.items _ at.number at.invariant) c.in_err-add_files-2.ensures.err)

pub returns-clause-read : goal.returns-clause-read
returns-clause-read g c =
    let at = c.loop-number in
    ReadSoFar-whole g.S.Source.remaining g.S.Source.failures c.args.sources.now at.sources at.files.items _ at.number at.invariant c.add_files-2.new.files.items c.in_ok-add_files-2.ensures.ok (omega (arith, c.loop-number-test.false, at.invariant.same))

pub returns-clause-under : goal.returns-clause-under
returns-clause-under g c =
    let at = c.loop-number in
    all_under g.S.Source.remaining g.S.Source.failures c.args.sources.now at.sources at.files.items _ at.number at.invariant c.add_files-2.new.files.items c.in_ok-add_files-2.ensures.ok

pub returns-clause-unfailed : goal.returns-clause-unfailed
returns-clause-unfailed g c = c.loop-number.invariant.unfailed
