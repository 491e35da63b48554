-- The type of a view.
use Rattle.types.specs.Kind as kind
use Rattle.types.specs.Kind.{Kind, kind_of}
use Rattle.types.specs.declared.data_type.Field.{out-Field}
use Rattle.arrays.specs.declared.view.ViewType.{ViewType}
use Rattle.arrays.specs.declared.view.ViewType.TheVariants.{Int, Bool, Text, List, Dict}

abbrev pub view_kind : ViewType → Kind
view_kind (Int t) = kind.int t
view_kind Bool = kind.boolean
view_kind (Text w) = kind.texts w
view_kind (List w item) = kind.lists w (kind_of (out-Field item.now).ty)
view_kind Dict = kind.dict
