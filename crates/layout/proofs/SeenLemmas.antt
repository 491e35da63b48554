-- What the parts of an array show, and slices of it.
use Rattle.std.proofs.Common.{◌≡◌, ◌∙◌, ℕ, ◌+◌, ◌-◌, ◌≤◌, List, map, Bool, length, take, drop, Option, Some, None, option_map, IfSome, [], ltb-false, ap, refl, arith, length-take, length-drop}
use Rattle.std.proofs.lemmas.List.{drop-take, drop-drop, take-take, take_all}
use Rattle.std.proofs.lemmas.List.FromFn.{length-map-range_with_len}
use Rattle.colbits.specs.Prelude.{bits, slice}
use Rattle.colbits.proofs.BitLemmas.{length-bits}
use Rattle.layout.specs.Prelude.{Buffers, Inner, Item, Reading, Seen, buffer_at, codes, column, inner_of, own_fault, part, read_parts, validity_of}
use Rattle.types.specs.Kind as kind
use Rattle.types.specs.Prelude.{Kind, int32, most_slots}
use Rattle.layout.specs.declared.fault.LayoutFault.TheVariants.{TooLong}
use Rattle.types.proofs.FirstLemmas.{first-none, then_some-none}

pub length-column : (k : Kind) (n : ℕ) (buffers : Buffers) (child entries : List Item) → length (column k n buffers child entries) ≡ n
unfolding column
length-column k n buffers child entries = length-map-range_with_len _ 0 n

-- an array shows its kind, and an item for each slot
pub seen-kind : (k : Kind) (n : ℕ) (stated : Option ℕ) (buffers : Buffers) (children : List Reading) (dictionary : Option Reading)
    → (read_parts k n stated buffers children dictionary).seen.kind ≡ k
unfolding read_parts
seen-kind (kind.int t) n stated buffers children dictionary = refl
seen-kind kind.boolean n stated buffers children dictionary = refl
seen-kind (kind.texts w) n stated buffers children dictionary = refl
seen-kind (kind.lists w k) n stated buffers children dictionary = refl
seen-kind kind.dict n stated buffers children dictionary = refl

pub length-items : (k : Kind) (n : ℕ) (stated : Option ℕ) (buffers : Buffers) (children : List Reading) (dictionary : Option Reading)
    → length (read_parts k n stated buffers children dictionary).seen.items ≡ n
unfolding read_parts
length-items (kind.int t) n stated buffers children dictionary = length-column _ n buffers _ _
length-items kind.boolean n stated buffers children dictionary = length-column _ n buffers _ _
length-items (kind.texts w) n stated buffers children dictionary = length-column _ n buffers _ _
length-items (kind.lists w k) n stated buffers children dictionary = length-column _ n buffers _ _
length-items kind.dict n stated buffers children dictionary = length-column _ n buffers _ _

-- ---- slices

pub length-slice : {A : Type 0} (xs : List A) (start n : ℕ) → start + n ≤ length xs → length (slice xs start n) ≡ n
length-slice xs start n h = length-take n (drop start xs) ∙ (omega (arith, length-drop start xs))

-- a slice of a slice
pub slice-slice : {A : Type 0} (xs : List A) (start n begin m : ℕ) → begin + m ≤ n → slice (slice xs start n) begin m ≡ slice xs (start + begin) m
slice-slice xs start n begin m h =
    let whole : n ≡ begin + (n - begin) = omega arith in
    let few : m ≤ n - begin = omega arith in
    ap (λ k. take m (drop begin (take k (drop start xs)))) whole
    ∙ ap (take m) (drop-take begin (n - begin) (drop start xs))
    ∙ take-take m (n - begin) (drop begin (drop start xs)) few
    ∙ ap (take m) (drop-drop begin start xs)

option-slice-slice : (v : Option (List Bool)) (start n begin m : ℕ) → begin + m ≤ n
    → option_map (λ x. slice x begin m) (option_map (λ x. slice x start n) v) ≡ option_map (λ x. slice x (start + begin) m) v
option-slice-slice None start n begin m h = refl
option-slice-slice (Some v) start n begin m h = ap (λ x. Some x) (slice-slice v start n begin m h)

pub part-part : (s : Seen) (start n begin m : ℕ) → begin + m ≤ n → part begin m (part start n s) ≡ part (start + begin) m s
part-part s start n begin m h =
    ap (λ v. record { kind = s.kind; validity = v; items = slice (slice s.items start n) begin m; codes = slice (slice s.codes start n) begin m; entries = s.entries }) (option-slice-slice s.validity start n begin m h)
    ∙ ap (λ xs. record { kind = s.kind; validity = option_map (λ x. slice x (start + begin) m) s.validity; items = xs; codes = slice (slice s.codes start n) begin m; entries = s.entries }) (slice-slice s.items start n begin m h)
    ∙ ap (λ xs. record { kind = s.kind; validity = option_map (λ x. slice x (start + begin) m) s.validity; items = slice s.items (start + begin) m; codes = xs; entries = s.entries }) (slice-slice s.codes start n begin m h)

-- ---- all of the slots
pub take-length-all : {A : Type 0} (xs : List A) (n : ℕ) → length xs ≡ n → slice xs 0 n ≡ xs
take-length-all xs n h = take_all n xs (omega (arith, h))

option-slice-all : (v : Option (List Bool)) (n : ℕ) → IfSome v (λ x. length x ≡ n) → option_map (λ x. slice x 0 n) v ≡ v
option-slice-all None n h = refl
option-slice-all (Some v) n h = ap (λ x. Some x) (take-length-all v n h)

-- what an array shows has its slots, in each part
pub record Fits (n : ℕ) (s : Seen) : Type 0 where
  pub items : length s.items ≡ n
  pub validity : IfSome s.validity (λ v. length v ≡ n)
  pub codes : length s.codes ≤ n

pub part-all : (n : ℕ) (s : Seen) → Fits n s → part 0 n s ≡ s
part-all n s fits =
    ap (λ v. record { kind = s.kind; validity = v; items = slice s.items 0 n; codes = slice s.codes 0 n; entries = s.entries }) (option-slice-all s.validity n fits.validity)
    ∙ ap (λ xs. record { kind = s.kind; validity = s.validity; items = xs; codes = slice s.codes 0 n; entries = s.entries }) (take-length-all s.items n fits.items)
    ∙ ap (λ xs. record { kind = s.kind; validity = s.validity; items = s.items; codes = xs; entries = s.entries }) (take_all n s.codes fits.codes)

validity-fits : (n : ℕ) (buffers : Buffers) → IfSome (validity_of n buffers) (λ v. length v ≡ n)
validity-fits n buffers = present-fits n (buffer_at buffers 0) where
  present-fits : (n : ℕ) (inner_of : Option (List ℕ)) → IfSome (option_map (λ bytes. bits bytes 0 n) inner_of) (λ v. length v ≡ n)
  present-fits n None = tt
  present-fits n (Some bytes) = length-bits bytes 0 n

pub Fits-seen : (k : Kind) (n : ℕ) (stated : Option ℕ) (buffers : Buffers) (children : List Reading) (dictionary : Option Reading)
    → Fits n (read_parts k n stated buffers children dictionary).seen
unfolding read_parts codes
Fits-seen (kind.int t) n stated buffers children dictionary = record { items = length-column _ n buffers _ _; validity = validity-fits n buffers; codes = omega arith }
Fits-seen kind.boolean n stated buffers children dictionary = record { items = length-column _ n buffers _ _; validity = validity-fits n buffers; codes = omega arith }
Fits-seen (kind.texts w) n stated buffers children dictionary = record { items = length-column _ n buffers _ _; validity = validity-fits n buffers; codes = omega arith }
Fits-seen (kind.lists w k) n stated buffers children dictionary = record { items = length-column _ n buffers _ _; validity = validity-fits n buffers; codes = omega arith }
Fits-seen kind.dict n stated buffers children dictionary = record { items = length-column _ n buffers _ _; validity = validity-fits n buffers; codes = omega (arith, length-column (kind.int int32) n buffers [] []) }

-- ---- how long a lawful array is

own_fault-short : (k : Kind) (n : ℕ) (stated : Option ℕ) (buffers : Buffers) (children : List Inner) (dictionary : Option Inner)
    → own_fault k n stated buffers children dictionary ≡ None → n ≤ most_slots
unfolding own_fault
own_fault-short k n stated buffers children dictionary h = ltb-false most_slots n (then_some-none _ TooLong (first-none _ _ h).0)

pub short-of_lawful : (k : Kind) (n : ℕ) (stated : Option ℕ) (buffers : Buffers) (children : List Reading) (dictionary : Option Reading)
    → (read_parts k n stated buffers children dictionary).fault ≡ None → n ≤ most_slots
unfolding read_parts
short-of_lawful k n stated buffers children dictionary h =
    own_fault-short k n stated buffers (map inner_of children) (option_map inner_of dictionary) (first-none _ _ h).0
