-- What the tests of an array's parts take of its children and its dictionary, and leave for the tests after them.
use Rattle.std.specs.Prelude.{◌≡◌, ℕ, ◌+◌, ◌*◌, ◌<◌, List, length, map, Option, option_map}
use Rattle.std.specs.declared.boxed.Box.{Box}
use Rattle.std.specs.declared.alloc.Global.{Global}
use Rattle.types.specs.declared.offset_width.OffsetWidth.{OffsetWidth}
use Rattle.types.specs.Prelude.{kind_of, size_of}
use Rattle.layout.specs.Fault.{Inner, content_faults, own_fault, shape_faults}
use Rattle.layout.specs.declared.fault.LayoutFault.{LayoutFault}
use Rattle.layout.specs.declared.raw.RawArray.{RawArray, out-RawArray}

-- The bytes hold the offsets of n slots, or there are none.
abbrev pub HasOffsets : OffsetWidth → ℕ → List ℕ → Type 0
HasOffsets w n bytes = length bytes < (n + 1) * size_of w → length bytes ≡ 0

-- What an array knows of its children and of its dictionary.
abbrev pub inner_raw : RawArray → Inner
inner_raw raw = record { kind = kind_of (out-RawArray raw).ty; length = (out-RawArray raw).length }

abbrev pub inner_children : List RawArray → List Inner
inner_children children = map inner_raw children

abbrev pub inner_dictionary : Option (Box RawArray Global) → Option Inner
inner_dictionary dictionary = option_map (λ b. inner_raw b.value) dictionary

-- The tests that come first, those after them, and the first fault of an array itself.
abbrev pub shape_faults_of : RawArray → List (Option LayoutFault)
shape_faults_of raw =
    let r = out-RawArray raw in
    shape_faults (kind_of r.ty) r.length r.buffers.items (inner_children r.children.items) (inner_dictionary r.dictionary)

abbrev pub content_faults_of : RawArray → List (Option LayoutFault)
content_faults_of raw =
    let r = out-RawArray raw in
    content_faults (kind_of r.ty) r.length r.null_count r.buffers.items (inner_children r.children.items) (inner_dictionary r.dictionary)

abbrev pub own_fault_of : RawArray → Option LayoutFault
own_fault_of raw =
    let r = out-RawArray raw in
    own_fault (kind_of r.ty) r.length r.null_count r.buffers.items (inner_children r.children.items) (inner_dictionary r.dictionary)
