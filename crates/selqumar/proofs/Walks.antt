-- The words of this crate's walks, the allocator of the C library as a box's, and a struct of one pointer. Assumes `Logic`.
pub use Rattle.std.proofs.Common.{◌≡◌, List, [], ◌∷◌, ◌++◌, refl, sym, ap, subst, ◌≢◌, lit<}
pub use mir.Syntax.{a_type, dcons, dnil, named, ty_ptr, ty_struct, tcons, tnil, Dict, impl}
pub use mir.MapTy.{inst_fn}
pub use mir.Val.{Val, vptr, vstruct, vcons, vnil, of_list}
pub use base.Logic.{SProp, ent, emp, id⊢, sep, never, fst∗}
pub use base.Fml.{ftrue, flft, fsep, Fml, GName}
pub use prog.Wp.{WpFn, Env}
pub use types.Kit.{‵, raw, ◌⊛◌, some, later, at_ret, ◌$◌, ◌∵◌, !, qed, by, move, keep, drop, split, split3, join, fsplit, fjoin, pick, suffices, use0, use1, use2, await, rewrite, feq_i, feq_l, group, fsplit3, fpack, frame, done, Item, Goal, Seq, Step, step, fpick}
pub use types.Run.{stop, fld, of_opd, no_more, and_then, first, blocks, exec, returns, enter, lit, load, addr}
pub use types.ByLocal.{alloc_all, pass_all, free_all, look_at, get, get_in, sets, lands_last, env, lands_as, through, sets_last}
pub use types.Part.{sub, whole, agg, look_in}
pub use contract.BorrowLft.{◌⊑◌, ⊑_static}
pub use contract.Monad.{fact, fact_i}
pub use contract.Running.{tables}
pub use denote.Exit.{yes, no}
pub use denote.RattleType.{RattleType, owns, Valss}
pub use denote.Signature.{types_at, plain, mut_ref_to}
pub use denote.RawPtr.{ptr_val, Ptr, null_ptr, block_ptr, in_a_block}
pub use denote.Steps.{nothing, only, heard, opens}
pub use denote.Param.{layout, param, bounded, arg}
pub use denote.Param.NoDrop.{glues}
pub use denote.Triple.Spec.{triple_of}
pub use denote.Triple.Call.{calls_at_last, calls_at}
pub use denote.Triple.Table.{framed}
pub use denote.Triple.Walked.{Stays, stay_dropped, walk_of, Goes-dropped, Goes-spent_ref, says, ends_at}
pub use Rattle.std.proofs.alloc.Calls.{Goes-blank, handle_tells}
pub use Rattle.std.proofs.alloc.Shapes.{after}
pub use Rattle.std.proofs.cell.Inside.{Good}
pub use Rattle.std.specs.Box.Ownership.{box_owns}
pub use Rattle.std.specs.contracts.impls.GlobalAllocator.TheImpl.{ghosts, dict}
pub use Rattle.std.proofs.impls.GlobalAllocator.TheImpl.Met.{passed}
pub use Rattle.std.proofs.BoxSteps.Steps.{box_out, box_in}
pub use Rattle.std.proofs.raw_atomic.Walks.{proved_at, leaves, proved}
pub use denote.Builtin.{RawPtr}
pub use Rattle.selqumar.specs.Prelude.{is_boxed, owned_at, with_pointee}
pub use denote.Triple.Entry.{alive}
pub use Rattle.std.specs.Prelude.{Option, None, Some}
pub use Rattle.selqumar.specs.declared.pointee.Pointee.{Pointee}
pub use seplogic.Ra.Ura.{Ura}
pub use mir.Raw.{raw as bare}
pub use types.Logic.{Logic, sem}
pub use denote.Struct.Struct.{Struct, within}
pub use denote.Param.Laws.{Laws, arg_laws}
pub use Rattle.selqumar.specs.contracts.pointee.Pointee.{the_row as pointee_row}
use Rattle.std.specs.contracts.alloc.Global as heap
use Rattle.std.proofs.alloc.Global.TheLaws as heap_laws
use Rattle.std.proofs.BoxSteps.Form as box

-- nothing is to be dropped of the allocator
abbrev pub allocator : RattleType
allocator = arg (bare (layout heap.the_row)) no heap.the_row

abbrev pub no_drop : Dict
no_drop = impl ("selqumar::Destruct++none::drop" ∷ []) (tcons (layout allocator) tnil) dnil

abbrev pub box_of : (T : RattleType) → Laws T → box.Bx
box_of T L = record { row = T; laws = L; al = record { row = allocator; laws = arg_laws (bare (layout heap.the_row)) no heap.the_row heap_laws.the_row_laws refl; g = ghosts; d = dict; drops = no_drop } }

-- what it owns does not read its name
abbrev pub One : RattleType
One = Struct (record { name = []; args = []; types = []; fields = RawPtr ∷ [] })

abbrev pub one : Ptr → Val
one p = vstruct (vcons (ptr_val p) vnil)

pub one_good : (p : Ptr) → Good (ty_struct [] (tcons ty_ptr tnil)) (one p)
one_good (block_ptr b o) = (tt, (tt, tt))
one_good null_ptr = (tt, (record { fits = lit< tt }, tt))

pub pointer_good : (p : Ptr) → Good ty_ptr (ptr_val p)
pointer_good (block_ptr b o) = (tt, tt)
pointer_good null_ptr = (tt, record { fits = lit< tt })

-- what is there, where something is
pub some_of : (t : Option Pointee) → t ≢ None → (x : Pointee) × (t ≡ Some x)
some_of None there = absurd (there refl)
some_of (Some x) there = (x, refl)

module _ {M : Type 1} {𝓤 : Ura M} {𝓛 : Logic 𝓤} {K : Type 0} {Γ : List (Item 𝓤)} {G : Goal 𝓤 𝓛.H} where
  pub one_out : K → (p : Ptr) (vs : List Val) → (vs ≡ one p ∷ [] → Seq K 𝓛 Γ G) → Seq K 𝓛 (‵ (One.own_val (p, tt) vs) ∷ Γ) G
  one_out t p vs next =
      fpick t (λ parts. fsplit t $ feq_l t (λ whole. fsplit t $ feq_l t (λ part. drop t $ next (subst (λ (us : List Val). vs ≡ vstruct (of_list (us ++ [])) ∷ []) part whole))))

  pub one_in : K → (p : Ptr) → Step K 𝓛 (‵ (One.own_val (p, tt) (one p ∷ [])) ∷ Γ) G Γ G
  one_in t p = step (λ next.
      nothing t $ feq_i t (List Val) (ptr_val p ∷ []) (ptr_val p ∷ []) refl $ fjoin t $ feq_i t (List Val) (one p ∷ []) (one p ∷ []) refl $ fjoin t $
      fpack t (Valss (RawPtr ∷ [])) (within (record { name = []; args = []; types = []; fields = RawPtr ∷ [] }) (p, tt) (one p ∷ [])) (ptr_val p ∷ [], tt) $ next)
