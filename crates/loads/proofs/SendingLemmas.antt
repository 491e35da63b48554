-- What the threads of workers see: files, and what their closure has of these and of the table. The search fits no lemma to what a
-- reference in a struct leads to, so such a struct is shown field by field.
use denote.Param.Send.{IsSend, IsSync, recorded_sync, sendable, shr_slice_sync, shr_sync, struct_sync}
use denote.Struct.Declared.{shape}
use denote.Struct.Struct.{Struct}
use denote.Ref.{NamedLft}
use denote.RattleType.{RattleType}
use Rattle.arrays.proofs.SendingLemmas.{file-sync}
use Rattle.arrays.specs.contracts.file.File as file
use Rattle.loads.specs.contracts.appending.Gated as gated
use Rattle.loads.specs.contracts.file_loading.FileLoading as loading
use Rattle.shared.specs.Naming as names
use Rattle.shared.proofs.SendingLemmas.{table-sync}
use Rattle.shared.specs.contracts.shared_table.SharedTable as table
use Rattle.shared.specs.declared.naming.Naming as naming
use Rattle.shared.specs.declared.shown.Publish as publish
use Rattle.shared.specs.Showing.{Showing}

pub loading-sync : (ℓ : NamedLft) (A : RattleType) → IsSync A → IsSync (loading.the_row ℓ A)
loading-sync ℓ A a =
    let T = loading.the_type ℓ A in
    recorded_sync (Struct (shape T)) T.D T.to T.to_one (struct_sync (shape T) (search (a, sendable) depth 20, (shr_slice_sync ℓ.mir ℓ.lft file.the_row file-sync, (search sendable, tt))))

module _ (N P : RattleType) (n : naming.Ghosts N.Denot) (m : names.Ghosts N.Denot) (p : publish.Ghosts P.Denot Showing) (send-P : IsSend P) where
  pub gated-sync : (ℓ : NamedLft) (W G : RattleType) → IsSync W → IsSync G → IsSync (gated.the_row ℓ N P W G n m p)
  gated-sync ℓ W G w g =
      let T = gated.the_type ℓ N P W G n m p in
      recorded_sync (Struct (shape T)) T.D T.to T.to_one
      (struct_sync (shape T) (search (w, sendable) depth 20, (shr_sync ℓ.mir ℓ.lft (table.the_row N P n m p) (table-sync N P n m p send-P), (search (g, sendable) depth 20, tt))))
