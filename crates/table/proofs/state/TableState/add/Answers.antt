use Rattle.std.proofs.Common.{◌≡◌, ◌∙◌, ℕ, List, None, ap, arith, length, subst, sym}
use Rattle.std.specs.declared.alloc.Global.{Global}
use Rattle.std.specs.declared.vec.Vec.{Vec}
use Rattle.arrays.specs.Batch.{Batch}
use Rattle.table.specs.Prelude.{Contents, admitted, early_cause}
use Rattle.table.proofs.StorageLemmas.{length-book}
use Rattle.table.proofs.PutLemmas.{Storage-same, put-storage, put-shows, put-texts, show-same}
use Rattle.table.proofs.StateLemmas.{ready-few, ready-moved}
use Rattle.table.proofs.state.TableState.add.Goals as goal

abbrev Early : Contents → Batch → Type 0
Early s b = early_cause s.fields s.history b ≡ None

pub stage-requires-clause-allowed : goal.stage-requires-clause-allowed
stage-requires-clause-allowed g c =
    subst (λ (s : Contents). Early s c.args.batch.now) (sym (show-same c.self.inside.storage c.reserve.new.self c.reserve.ensures.same ∙ c.self.view_is)) c.requires.allowed

pub commit-requires-clause-can : goal.commit-requires-clause-can
commit-requires-clause-can g c = (
  c.in_ok-reserve.ensures.room,
  (
    ready-few c.reserve.new.self c.args.worker c.args.batch.now c.in_ok-addition.addition (Storage-same c.self.inside.storage c.reserve.new.self c.reserve.ensures.same c.self.invariant.storage) c.in_ok-addition.ensures.ok,
    ready-moved c.reserve.new.self c.args.worker c.args.batch.now c.in_ok-addition.addition c.in_ok-addition.ensures.ok,
  ),
)

pub commit-requires-clause-lawful : goal.commit-requires-clause-lawful
commit-requires-clause-lawful g c = λ h next.
    put-storage c.reserve.new.self h c.args.batch.now c.args.worker c.in_ok-addition.addition (Storage-same c.self.inside.storage c.reserve.new.self c.reserve.ensures.same c.self.invariant.storage) c.in_ok-addition.ensures.ok next

pub commit-requires-clause-begun : goal.commit-requires-clause-begun
commit-requires-clause-begun g c = c.in_ok-addition.ensures.begun

pub invariant_of-self-2 : goal.invariant_of-self-2
invariant_of-self-2 g c =
    let is = Storage-same c.self.inside.storage c.reserve.new.self c.reserve.ensures.same c.self.invariant.storage in record {
      storage = put-storage c.reserve.new.self c.commit.new.storage c.args.batch.now c.args.worker c.in_ok-addition.addition is c.in_ok-addition.ensures.ok c.in_ok-seen.ensures.next;
      texts = put-texts c.reserve.new.self c.commit.new.storage c.args.batch.now c.args.worker c.in_ok-addition.addition is c.in_ok-addition.ensures.ok c.in_ok-seen.ensures.next c.commit.new.pools.items
          (◌∙◌ {A = List (List (List ℕ))} (ap (λ (v : Vec (List (List ℕ)) Global). v.items) c.in_ok-seen.ensures.pools) c.in_ok-addition.ensures.pools);
    }

pub returns-clause-number : goal.returns-clause-number
returns-clause-number g c =
    omega (arith, c.len-number.ensures, length-book c.self.inside.storage, ap (λ (s : Contents). length s.history) c.self.view_is)

pub returns-clause-added : goal.returns-clause-added
returns-clause-added g c =
    let is = Storage-same c.self.inside.storage c.reserve.new.self c.reserve.ensures.same c.self.invariant.storage in
    put-shows c.reserve.new.self c.commit.new.storage c.args.batch.now c.args.worker c.in_ok-addition.addition is c.in_ok-addition.ensures.ok c.in_ok-seen.ensures.next
    ∙ ap (λ (s : Contents). admitted s c.args.worker c.args.batch.now) (show-same c.self.inside.storage c.reserve.new.self c.reserve.ensures.same ∙ c.self.view_is)

pub returns-clause-legal : goal.returns-clause-legal
returns-clause-legal g c =
    let is = Storage-same c.self.inside.storage c.reserve.new.self c.reserve.ensures.same c.self.invariant.storage in
    (put-storage c.reserve.new.self c.commit.new.storage c.args.batch.now c.args.worker c.in_ok-addition.addition is c.in_ok-addition.ensures.ok c.in_ok-seen.ensures.next).legal
