use Rattle.std.proofs.Common.{◌≡◌, Some, subst, sym}
use Rattle.std.specs.Prelude.{IfSome, slice_index_or}
use Rattle.arrays.specs.Prelude.{null}
use Rattle.pool.specs.Places.{IsKnown}
use Rattle.pool.proofs.PlacingLemmas.{AreKnown-grown, AreKnown-set, known_from_placed, placed_by_known}
use Rattle.pool.proofs.placing.add_row.Goals as goal
use Rattle.pool.proofs.placing.add_row.Goals.{in_default-via-in-None-1, in_default-via-in-Some+else-entry-known, in_default-via-in-Some+then-entry-known+in-None-1}

pub returns-clause-place : goal.returns-clause-place
returns-clause-place c =
    let pool = c.args.pool.now in
    let view = c.args.view.now in
    let entry = c.in-Some.entry in
    let x = slice_index_or view.items c.args.i null in
    let place = c.in-Some-known.place in
    let same : x ≡ slice_index_or view.entries.items entry null =
    subst (λ o. IfSome o (λ e. x ≡ slice_index_or view.entries.items e null)) c.in-Some.is (c.entry_at-entry.ensures view c.requires.coded) in
    let there : IsKnown pool (slice_index_or view.entries.items entry null) (Some place) =
    subst (IsKnown pool (slice_index_or view.entries.items entry null)) c.in-Some-known.is (c.requires.known entry) in
    placed_by_known pool x place (subst (λ y. IsKnown pool y (Some place)) (sym same) there) c.requires.fits

pub returns-then-entry-known-2-clause-known : goal.returns-then-entry-known-2-clause-known
returns-then-entry-known-2-clause-known c =
    let pool = c.args.pool.now in
    let new = c.add_text.new.pool in
    let view = c.args.view.now in
    let entry = c.in-Some-entry.entry in
    let x = slice_index_or view.items c.args.i null in
    let place = c.in_ok-place.place in
    let placed = c.in_ok-place.ensures.place in
    let named = c.entry_at-entry.ensures view c.requires.coded in
    let joined : IfSome c.in_default.entry (λ e. x ≡ slice_index_or view.entries.items e null) = elim c.in_default.branch [
      | in_default-via-in-None-1 w ↦ subst (λ o. IfSome o (λ e. x ≡ slice_index_or view.entries.items e null)) (sym w.entry-is) named
      | in_default-via-in-Some+else-entry-known w ↦ subst (λ o. IfSome o (λ e. x ≡ slice_index_or view.entries.items e null)) (sym w.entry-is) (subst (λ o. IfSome o (λ e. x ≡ slice_index_or view.entries.items e null)) w.in-Some.is named)
      | in_default-via-in-Some+then-entry-known+in-None-1 w ↦ subst (λ o. IfSome o (λ e. x ≡ slice_index_or view.entries.items e null)) (sym w.entry-is) (subst (λ o. IfSome o (λ e. x ≡ slice_index_or view.entries.items e null)) w.in-Some.is named)
    ] in
    let same : x ≡ slice_index_or view.entries.items entry null =
    subst (λ o. IfSome o (λ e. x ≡ slice_index_or view.entries.items e null)) c.in-Some-entry.is joined in
    AreKnown-set new view.entries.items c.args.known.now entry place c.if-entry-known-2.true
    (subst (λ y. IsKnown new y place) same (known_from_placed pool new x place placed))
    (AreKnown-grown pool new x view.entries.items c.args.known.now placed.texts c.requires.known)

pub returns-in_default-clause-known : goal.returns-in_default-clause-known
returns-in_default-clause-known c =
    AreKnown-grown c.args.pool.now c.add_text.new.pool (slice_index_or c.args.view.now.items c.args.i null) c.args.view.now.entries.items c.args.known.now
    c.in_ok-place.ensures.place.texts c.requires.known
