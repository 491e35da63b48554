-- Where numbers stand, as a reader has it.
use Rattle.std.specs.Prelude.{◌≡◌, ◌≢◌, ℕ, ◌<◌, ℤ, List, slice_get, Some, unwrap_or}
use Rattle.std.specs.BTreeMap.{BTreeMap, get}
use Rattle.std.specs.Ordering.{int_cmp}
use Rattle.json_read.specs.JsonCatalog.{StandsOnce}
use Rattle.json_read.specs.declared.place.Place.{Place}
use Rattle.json_read.specs.declared.place.Place.TheVariants.{Nowhere, At, Again}

-- Where a number stands among the first n.
abbrev pub IsNumberPlace : List ℤ → ℤ → ℕ → Place → Type 0
IsNumberPlace ids id n Nowhere = (j : ℕ) → j < n → slice_get ids j ≢ Some id
IsNumberPlace ids id n (At i) = StandsOnce ids id n i
IsNumberPlace ids id n (Again k) = (j : ℕ) × (j < k) × StandsOnce ids id k j × (slice_get ids k ≡ Some id)

-- A place of one of the first n.
abbrev pub IsBefore : ℕ → Place → Type 0
IsBefore n Nowhere = Unit {0}
IsBefore n (At i) = i < n
IsBefore n (Again k) = k < n

-- The place where the number stands among the first n and at n.
abbrev pub next_place : ℕ → Place → Place
next_place n Nowhere = At n
next_place n (At i) = Again n
next_place n (Again k) = Again k

-- The place that a map has for the number.
abbrev pub place_at : BTreeMap ℤ Place → ℤ → Place
place_at places id = unwrap_or (get int_cmp places id) Nowhere

-- A map has the places of all numbers among the first n.
abbrev pub ArePlaces : List ℤ → ℕ → BTreeMap ℤ Place → Type 0
ArePlaces ids n places = (id : ℤ) → IsNumberPlace ids id n (place_at places id) × IsBefore n (place_at places id)
