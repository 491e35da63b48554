-- What a closure that looks at pieces has may go to another thread, field by field, since the search fits no lemma to what a reference in it
-- leads to.
use Prim.Native.Nat.{ℕ}
use mathlib.Core.List.{List, [], ◌∷◌}
use denote.Param.{param}
use denote.Param.Send.{IsSend, IsSync, param_sync, recorded_send, recorded_sync, sendable, shr_send, shr_sync, shr_slice_sync, struct_send, struct_sync}
use denote.RattleType.{RattleType}
use denote.Ref.{NamedLft}
use denote.Struct.Declared.{shape}
use denote.Struct.Field.{shr_ref_field, u32-field}
use denote.Struct.Struct.{Struct}
use denote.Struct.Tuple.{TupleAt, type_at}
use Rattle.std.proofs.Crossing.{crosses}
use Rattle.std.specs.contracts.sync.Arc as arc
use Rattle.std.specs.contracts.alloc.Global as global
use Rattle.std.specs.contracts.impls.GlobalAllocator.TheImpl.{ghosts}
use Rattle.query.proofs.expr.Expr.TheLaws.TheKnot as exprs
use Rattle.query.proofs.expr.Agg.TheSendSync as agg
use Rattle.query.specs.contracts.queries.Query as query
use Rattle.arrays.specs.contracts.batch.RecordBatch as batch
use Rattle.arrays.proofs.SendingLemmas.{batch-send, batch-sync}
use Rattle.keys.specs.contracts.text_set.TextSet as texts
use Rattle.answers.specs.contracts.scan.Scan as scan

query-sync : IsSync query.the_row
query-sync = search (exprs.crosses, agg.the_sync, crosses, sendable) depth 40

texts-sync : IsSync texts.the_row
texts-sync = search (crosses, sendable) depth 40

abbrev shared-batch : RattleType
shared-batch = arc.the_row batch.the_row global.the_row ghosts

shared-sync : IsSync shared-batch
shared-sync = search (batch-send, batch-sync, crosses, sendable) depth 20

module _ (ℓ ℓ₁ ℓ₂ ℓ₃ : NamedLft) (T G : RattleType) (ν : List ℕ) (threads : IsSync T) (gate : IsSync G) where
  abbrev scan-row : RattleType
  scan-row = scan.the_row ℓ₂ ℓ₃ (param 1 G)

  scan-sync : IsSync scan-row
  scan-sync =
      let C = scan.the_type ℓ₂ ℓ₃ (param 1 G) in
      recorded_sync (Struct (shape C)) C.D C.to C.to_one
      (struct_sync (shape C) (
        search (crosses, sendable) depth 20,
        (
          shr_slice_sync _ _ shared-batch shared-sync,
          (
            shr_sync _ _ query.the_row query-sync,
            (
              shr_sync _ _ texts.the_row texts-sync,
              (search (crosses, sendable) depth 20, (shr_sync _ _ (param 1 G) (param_sync 1 G gate), tt)),
            ),
          ),
        ),
      ))

  abbrev pub several-has : List RattleType
  several-has = (shr_ref_field ℓ (param 0 T) tt).row ∷ (shr_ref_field ℓ₁ scan-row tt).row ∷ u32-field.row ∷ u32-field.row ∷ []

  -- A closure that has several pieces looked at.
  pub several-send : IsSend (TupleAt ν several-has)
  several-send =
      let C = type_at ν several-has in
      recorded_send (Struct (shape C)) C.D C.to C.to_one
      (struct_send (shape C) (
        shr_send ℓ.mir ℓ.lft (param 0 T) (param_sync 0 T threads),
        (shr_send ℓ₁.mir ℓ₁.lft scan-row scan-sync, (search (crosses, sendable) depth 20, (search (crosses, sendable) depth 20, tt))),
      ))
