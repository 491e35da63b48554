-- How a fault is reported.
use Rattle.std.specs.Prelude.{ℕ, List, [], ◌∷◌, ◌++◌, codes, Option, Some, None}
use Rattle.std.specs.Fmt.{decimal}
use Rattle.arrays.specs.Prelude.{LayoutFault}
use Rattle.arrays.specs.LayoutFaults as layout
use Rattle.json_base.specs.JsonPath.{pointer}
use Rattle.json_base.specs.declared.path.Step.{Step}
use Rattle.json_base.specs.declared.fault.JsonFaultKind.{JsonFaultKind}
use Rattle.json_base.specs.declared.fault.JsonFaultKind.TheVariants.{NotJson, MissingMember, WrongMember, UnsupportedType, BadNumber, BadOffset, CountDiffers, NoDictionary, DictionaryTwice, Layout, NoMemory}

-- The number and the name.
abbrev pub kind_name : JsonFaultKind → List ℕ
kind_name NotJson = codes "J1 NotJson"
kind_name MissingMember = codes "J2 MissingMember"
kind_name WrongMember = codes "J3 WrongMember"
kind_name UnsupportedType = codes "J4 UnsupportedType"
kind_name BadNumber = codes "J5 BadNumber"
kind_name BadOffset = codes "J6 BadOffset"
kind_name CountDiffers = codes "J7 CountDiffers"
kind_name NoDictionary = codes "J8 NoDictionary"
kind_name DictionaryTwice = codes "J9 DictionaryTwice"
kind_name (Layout fault) = codes "J10 Layout"
kind_name NoMemory = codes "J11 NoMemory"

-- ---- faults of the layout

abbrev pub layout_name : LayoutFault → List ℕ
layout_name layout.MissingBuffer = codes "V1 MissingBuffer"
layout_name layout.ExtraBuffer = codes "V2 ExtraBuffer"
layout_name layout.BufferTooShort = codes "V3 BufferTooShort"
layout_name layout.OffsetNegative = codes "V4 OffsetNegative"
layout_name (layout.OffsetDecreases row) = codes "V5 OffsetDecreases"
layout_name layout.OffsetPastEnd = codes "V6 OffsetPastEnd"
layout_name layout.NullCountDiffers = codes "V7 NullCountDiffers"
layout_name (layout.NotUtf8 row) = codes "V8 NotUtf8"
layout_name (layout.IndexPastDictionary row) = codes "V9 IndexPastDictionary"
layout_name layout.ChildDiffers = codes "V10 ChildDiffers"
layout_name layout.TooLong = codes "V11 TooLong"
layout_name layout.TooDeep = codes "V12 TooDeep"
layout_name layout.NoMemory = codes "V13 NoMemory"

abbrev pub row_of : LayoutFault → Option ℕ
row_of (layout.OffsetDecreases row) = Some row
row_of (layout.NotUtf8 row) = Some row
row_of (layout.IndexPastDictionary row) = Some row
row_of fault = None

abbrev pub row_text : Option ℕ → List ℕ
row_text None = []
row_text (Some row) = codes " row=" ++ decimal row

-- What follows the name: the layout's fault, if it is one.
abbrev pub layout_text : JsonFaultKind → List ℕ
layout_text (Layout fault) = codes " " ++ layout_name fault ++ row_text (row_of fault)
layout_text kind = []

abbrev pub kind_text : JsonFaultKind → List ℕ
kind_text kind = kind_name kind ++ layout_text kind

-- ---- the whole

-- The place, if it isn't the document itself.
abbrev pub place_text : List Step → List ℕ
place_text [] = []
place_text (s ∷ path) = codes " at " ++ pointer (s ∷ path)

abbrev pub fault_text : JsonFaultKind → List Step → List ℕ
fault_text kind path = kind_text kind ++ place_text path
