-- Why a fault of a dictionary stands.
use Rattle.std.proofs.Common.{◌≡◌, ℕ, List, [], ◌∷◌, Some, None, option_and_then}
use Rattle.arrays.specs.Prelude.{Narrow, Seen}
use Rattle.arrays.specs.Kind as kind
use Rattle.json_base.specs.Prelude.{Data, IsFault, IsObject, IsUnder, ListFault, MemberFault, Missing, Tells, Unlike, absent, as_array, as_object, count_of, item, member_of, no_items, wrong}
use Rattle.json_base.specs.declared.path.Member.TheVariants as member
use Rattle.json_base.specs.declared.path.Step.{Step}
use Rattle.json_base.specs.declared.path.Step.TheVariants as step
use Rattle.json_base.specs.declared.fault.JsonFault.{JsonFault}
use Rattle.json_base.specs.declared.fault.JsonFaultKind.{JsonFaultKind}
use Rattle.json_base.specs.declared.fault.JsonFaultKind.TheVariants.{WrongMember}
use Rattle.json_read.specs.Prelude.{ColumnFault, EntryFault, HoldsColumn, ReadsTexts, TextsFault, WrapperFault, bad_bare, bad_texts, bad_texts_count, bad_texts_list, bad_wrapped, no_batch, no_texts_object, only_item, texts}
use Rattle.json_base.proofs.JsonTells.{tells_at, tells_as, tells_under}

-- ---- a batch of texts

pub texts_object : (d : Data) (f : JsonFault) → Tells (Unlike as_object d) f → Tells (TextsFault d) f
texts_object d f t = tells_as (Unlike as_object d) (TextsFault d) f (λ k p h. no_texts_object k p h) t

pub texts_count : (d : Data) (f : JsonFault) → Tells (MemberFault member.Count (Unlike count_of) d) f → Tells (TextsFault d) f
texts_count d f t = tells_as (MemberFault member.Count (Unlike count_of) d) (TextsFault d) f (λ k p h. bad_texts_count k p h) t

pub texts_list : (d : Data) (f : JsonFault) → Tells (MemberFault member.Columns (ListFault 1) d) f → Tells (TextsFault d) f
texts_list d f t = tells_as (MemberFault member.Columns (ListFault 1) d) (TextsFault d) f (λ k p h. bad_texts_list k p h) t

pub texts_column : (d : Data) (n : ℕ) (column : Data) (f g h : JsonFault) → Tells (ColumnFault (texts Narrow) n column) f → option_and_then count_of (member_of member.Count d) ≡ Some n
    → option_and_then as_array (member_of member.Columns d) ≡ Some (item column no_items) → IsUnder (step.Item 0) f g → IsUnder (step.Member member.Columns) g h → Tells (TextsFault d) h
texts_column d n column f g h t count columns up up_again =
    let Inside : JsonFaultKind → List Step → Type 0 = λ k p. TextsFault d k (step.Member member.Columns ∷ p) in
    tells_under Inside (TextsFault d) (step.Member member.Columns) g h (λ k p w. w)
    (tells_under (ColumnFault (texts Narrow) n column) Inside (step.Item 0) f g (λ k p w. bad_texts n column k p count columns w) t up)
    up_again

pub texts_read : (d : Data) (n : ℕ) (column : Data) (s : Seen) → option_and_then count_of (member_of member.Count d) ≡ Some n
    → option_and_then as_array (member_of member.Columns d) ≡ Some (item column no_items) → HoldsColumn kind.utf8 n column s → ReadsTexts d s.items
texts_read d n column s count columns h = record { n = n; count = count; column = column; columns = columns; reads = h.reads }

pub texts_kind : (n : ℕ) (column : Data) (s : Seen) → HoldsColumn kind.utf8 n column s → s.kind ≡ kind.utf8
texts_kind n column s h = h.kind

pub ruleset texts_faults = (texts_object, texts_count, texts_list, texts_column, texts_read, texts_kind)

-- ---- what an entry holds

pub wrapper_none : (d : Data) (f : JsonFault) → as_object d ≡ None → only_item d ≡ None → IsFault WrongMember [] f → Tells (WrapperFault d) f
wrapper_none d f object single is = tells_at (WrapperFault d) WrongMember [] f (no_batch object single) is

pub wrapper_bare : (d : Data) (f : JsonFault) → Tells (TextsFault d) f → IsObject d → Tells (WrapperFault d) f
wrapper_bare d f t object = tells_as (TextsFault d) (WrapperFault d) f (λ k p h. bad_bare k p object h) t

pub wrapper_wrapped : (d e : Data) (f g : JsonFault) → Tells (TextsFault e) f → only_item d ≡ Some e → IsUnder (step.Item 0) f g → Tells (WrapperFault d) g
wrapper_wrapped d e f g t single up = tells_under (TextsFault e) (WrapperFault d) (step.Item 0) f g (λ k p h. bad_wrapped e k p single h) t up

pub ruleset wrapper_faults = (wrapper_none, wrapper_bare, wrapper_wrapped)

-- ---- an entry

pub entry_absent : (d : Data) (f : JsonFault) → Tells (Missing member.Texts d) f → Tells (EntryFault d) f
entry_absent d f t = tells_as (Missing member.Texts d) (EntryFault d) f (λ k p h. absent k p h) t

pub entry_wrapper : (d e : Data) (f g : JsonFault) → Tells (WrapperFault e) f → member_of member.Texts d ≡ Some e → IsUnder (step.Member member.Texts) f g → Tells (EntryFault d) g
entry_wrapper d e f g t at up = tells_under (WrapperFault e) (EntryFault d) (step.Member member.Texts) f g (λ k p h. wrong e k p at h) t up

pub ruleset entry_faults = (entry_absent, entry_wrapper)
