-- Trees, and the data that they stand for.
use Rattle.std.proofs.Common.{◌≡◌, List, [], ◌∷◌, ◌++◌, map, refl, ap}
use Rattle.serde_json.specs.Data.{no_items, item}
use Rattle.serde_json.specs.View.{view, items_view}
use Rattle.serde_json.specs.declared.value.Value.{Value}
use Rattle.json_scan.specs.Spelling.{before}

pub items_viewed : (vs : List Value) (v : Value) → before (map view vs ++ view v ∷ []) no_items ≡ items_view (vs ++ v ∷ [])
items_viewed [] v = refl
items_viewed (w ∷ vs) v = ap (item (view w)) (items_viewed vs v)
