-- The text of one field: why its faults stand, and what follows of it.
use Rattle.std.proofs.Common.{◌≡◌, ℕ, List, Some, IsUtf8, subst}
use Rattle.arrays.specs.Prelude.{FieldShape}
use Rattle.json_base.specs.Prelude.{Data, NoDocument, Tells, no_document, read}
use Rattle.json_base.specs.declared.path.Step.{Step}
use Rattle.json_base.specs.declared.fault.JsonFault.{JsonFault}
use Rattle.json_base.specs.declared.fault.JsonFaultKind.{JsonFaultKind}
use Rattle.json_base.proofs.JsonTells.{tells_as, tells_wants}
use Rattle.json_read.specs.Prelude.{FieldTextFault, IsFieldText, ReadsField, TopFault, bad_field_text, no_field_text}
use Rattle.json_read.proofs.SchemaLaws.{field_law, same_field}

none_text : (bytes : List ℕ) (k : JsonFaultKind) (p : List Step) → NoDocument bytes k p → FieldTextFault bytes k p
none_text bytes k p (no_document h) = no_field_text h

pub field_no_text : (bytes : List ℕ) (f : JsonFault) → Tells (NoDocument bytes) f → Tells (FieldTextFault bytes) f
field_no_text bytes f t = tells_as (NoDocument bytes) (FieldTextFault bytes) f (none_text bytes) t

pub field_bad : (bytes : List ℕ) (d : Data) (f : JsonFault) → Tells (TopFault d) f → IsUtf8 bytes → read bytes ≡ Some d → Tells (FieldTextFault bytes) f
field_bad bytes d f t text parsed = tells_as (TopFault d) (FieldTextFault bytes) f (λ k p h. bad_field_text d k p text parsed h) t

pub ruleset field_text_faults = (field_no_text, field_bad, tells_wants)

-- ---- laws

pub field_text_law : (bytes : List ℕ) (f : FieldShape) (k : JsonFaultKind) (p : List Step) → IsFieldText bytes f → FieldTextFault bytes k p → ⊥
field_text_law bytes f k p h (no_field_text none) =
    let e = none h.text in
    cc (e, h.parsed)
field_text_law bytes f k p h (bad_field_text d k' p' text parsed w) =
    let same : d ≡ h.document = cc (parsed, h.parsed) in
    field_law h.document f k' p' h.field (subst (λ x. TopFault x k' p') same w)

pub field_text_same : (bytes : List ℕ) (f g : FieldShape) → IsFieldText bytes f → IsFieldText bytes g → f ≡ g
field_text_same bytes f g h k =
    let same : h.document ≡ k.document = cc (h.parsed, k.parsed) in
    same_field k.document f g (subst (λ d. ReadsField d f) same h.field) k.field
