-- Truth values that may not be known.
use Rattle.std.proofs.Common.{◌≡◌, ◌∙◌, ℕ, ◌<◌, List, Bool, true, false, not, ◌&&◌, cond, Option, Some, None, is_some, get_or, refl}
use Rattle.arrays.proofs.SlotLemmas.{items-slot}
use Rattle.layout.specs.Prelude.{boolean, null, valid_in}
use Rattle.arrays.specs.Prelude.{bool_in, bool_items, item_of_bool, knows_false, knows_true}

-- a slot is true where it is valid and its bit is 1, and false where it is valid and its bit is 0
pub true_slot : (bits : List Bool) (validity : Option (List Bool)) (i : ℕ) → (valid_in validity i && get_or bits i false) ≡ knows_true (bool_in bits validity i)
true_slot bits validity i = by_case (valid_in validity i)
  where
    by_case : (b : Bool) → (b && get_or bits i false) ≡ knows_true (cond b (Some (get_or bits i false)) None)
    by_case true = refl
    by_case false = refl

pub false_slot : (bits : List Bool) (validity : Option (List Bool)) (i : ℕ) → (valid_in validity i && not (get_or bits i false)) ≡ knows_false (bool_in bits validity i)
false_slot bits validity i = by_case (valid_in validity i)
  where
    by_case : (b : Bool) → (b && not (get_or bits i false)) ≡ knows_false (cond b (Some (get_or bits i false)) None)
    by_case true = refl
    by_case false = refl

pub known_slot : (bits : List Bool) (validity : Option (List Bool)) (i : ℕ) → valid_in validity i ≡ is_some (bool_in bits validity i)
known_slot bits validity i = by_case (valid_in validity i)
  where
    by_case : (b : Bool) → b ≡ is_some (cond b (Some (get_or bits i false)) None)
    by_case true = refl
    by_case false = refl

item_if : (b t : Bool) → cond b (boolean t) null ≡ item_of_bool (cond b (Some t) None)
item_if true t = refl
item_if false t = refl

pub bool_items-slot : (bits : List Bool) (validity : Option (List Bool)) (n j : ℕ) → j < n → get_or (bool_items bits validity n) j null ≡ item_of_bool (bool_in bits validity j)
bool_items-slot bits validity n j within =
    items-slot (λ k. boolean (get_or bits k false)) validity n j within ∙ item_if (valid_in validity j) (get_or bits j false)
