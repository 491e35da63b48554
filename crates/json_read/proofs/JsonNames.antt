-- What a member or a name says of an object.
use Rattle.std.proofs.Common.{◌≡◌, ◌≢◌, ◌∙◌, ℕ, ◌-◌, List, length, get_or, Some, option_and_then, refl, sym, ap, arith}
use Rattle.arrays.specs.Prelude.{Narrow, OffsetWidth, Shape, Wide}
use Rattle.json_base.specs.Prelude.{Data}
use Rattle.json_read.specs.JsonSchema.{type_name, texts_name, lists_name, NamesLists, HasType}

-- what holds at both widths
pub by_width : (P : OffsetWidth → Type 0) → P Narrow → P Wide → (w : OffsetWidth) → P w
by_width P narrow wide Narrow = narrow
by_width P narrow wide Wide = wide

-- the last letter of a name but one: by it types are distinguished, whatever the width
abbrev pub mark : List ℕ → ℕ
mark bytes = get_or bytes (length bytes - 2) 0

pub texts_mark : (w : OffsetWidth) → mark (texts_name w) ≡ 102
texts_mark Narrow = refl
texts_mark Wide = refl

pub lists_mark : (w : OffsetWidth) → mark (lists_name w) ≡ 115
lists_mark Narrow = refl
lists_mark Wide = refl

pub other_name : (a b : List ℕ) → mark a ≢ mark b → a ≢ b
other_name a b other e = other (ap mark e)

-- by its name a width is reported
pub same_texts_width : (v w : OffsetWidth) → texts_name v ≡ texts_name w → v ≡ w
same_texts_width Narrow Narrow e = refl
same_texts_width Narrow Wide e = absurd (let n : 4 ≡ 9 = ap length e in omega (arith, n))
same_texts_width Wide Narrow e = absurd (let n : 9 ≡ 4 = ap length e in omega (arith, n))
same_texts_width Wide Wide e = refl

pub same_lists_width : (v w : OffsetWidth) → lists_name v ≡ lists_name w → v ≡ w
same_lists_width Narrow Narrow e = refl
same_lists_width Narrow Wide e = absurd (let n : 4 ≡ 9 = ap length e in omega (arith, n))
same_lists_width Wide Narrow e = absurd (let n : 9 ≡ 4 = ap length e in omega (arith, n))
same_lists_width Wide Wide e = refl

-- a type that is called otherwise is none of lists
pub not_lists : (d : Data) (s : Shape) (bytes : List ℕ) → (h : HasType d s) → type_name h.object ≡ Some bytes → mark bytes ≢ 115 → NamesLists d → ⊥
not_lists d s bytes h called other lists =
    let found : Some bytes ≡ Some (lists_name lists.width) = sym called ∙ (sym (ap (option_and_then type_name) h.at_type) ∙ lists.named) in
    let same : bytes ≡ lists_name lists.width = cc in
    other (ap mark same ∙ lists_mark lists.width)
