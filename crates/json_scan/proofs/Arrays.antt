-- The items of an array, one after another.
use Rattle.std.proofs.Common.{◌≡◌, ◌∙◌, ℕ, ◌+◌, ◌-◌, ◌<◌, ◌≤◌, true, List, [], ◌∷◌, ◌++◌, length, drop, get_or, Option, Some, None, ℤ, refl, sym, ap, ap₂, subst, arith}
use Rattle.json.specs.Token.{Token}
use Rattle.json.specs.Json as json
use Rattle.json.specs.Json.{parse_map, after_end_array, items, value}
use Rattle.json.specs.Lex.{Lexeme, token, lex, between, punctuate, Place, may_begin, fresh, after_value, after_comma, begins_colon}
use Rattle.json.proofs.Grammar.{left, items_end, items_more, value_is, value-begin_array, skip_value-shorter, closed_array}
use Rattle.std.proofs.lemmas.List.{map-append}
use Rattle.serde_json.specs.Data.{Num, Data, number, array, Items, no_items, item}
use Rattle.serde_json.specs.Find.{as_integer}
use Rattle.serde_json.specs.Read.{of_json, of_items, converted}
use Rattle.json_scan.specs.Prelude.{AreIntegers, IsMark, SpellsAt, SpellsItems, before, number_integer, tokens_in}
use Rattle.json_scan.specs.declared.mark.Container.TheVariants.{Array}
use Rattle.json_scan.specs.declared.mark.Mark.TheVariants.{Comma, End}
use Rattle.json_scan.proofs.Lexemes.{operator_lexed}
use Rattle.json_scan.proofs.Values.{unconverted, inside, allowed, after_comma_mark}

with_item : (j : json.Json) (d : Data) → of_json j ≡ Some d → (o : Option (json.Items × List Token)) → converted of_items (parse_map (json.item j) o) ≡ parse_map (item d) (converted of_items o)
with_item j d e None = refl
with_item j d e (Some p) = rw e (inside (item d) p.1 (of_items p.0))

with_array : (o : Option (json.Items × List Token)) → converted of_json (parse_map json.array o) ≡ parse_map array (converted of_items o)
with_array None = refl
with_array (Some p) = inside array p.1 (of_items p.0)

-- no value begins with a bracket that closes
no_some : {A : Type 0} (a : A) → Some a ≡ None → ⊥
no_some a e = cc

open_by : (depth : ℕ) (ts : List Token) (p : Data × List Token) (o : Option (List Token)) → after_end_array ts ≡ o → converted of_json (value depth ts) ≡ Some p → o ≡ None
open_by depth ts p None e f = refl
open_by depth ts p (Some us) e f =
    let none : value depth ts ≡ None = ap (value depth) (closed_array ts us e) ∙ value_is depth (Token.end_array ∷ us) in
    absurd (no_some p (sym f ∙ ap (converted of_json) none))

turn : (depth n : ℕ) (ts us rs : List Token) (d : Data) (more : Items) → length ts ≤ n → converted of_json (value depth ts) ≡ Some (d, us)
    → ((m : ℕ) → length us ≤ m → converted of_items (items (value depth) m us) ≡ Some (more, rs)) → converted of_items (items (value depth) n ts) ≡ Some (item d more, rs)
turn depth n ts us rs d more enough e rest =
    let j = unconverted of_json (value depth ts) d us e in
    let shorter : length us < length ts = skip_value-shorter depth ts us (ap left j.1) in
    ap (converted of_items) (items_more (value depth) n ts us j.0 (omega arith) (open_by depth ts (d, us) _ refl e) j.1) ∙ with_item j.0 d j.2 _ ∙ ap (parse_map (item d)) (rest (n - 1) (omega arith))

-- ---- the marks after an item

after_item_end : (ls : List Lexeme) → punctuate after_value (token Token.end_array ∷ ls) ≡ Token.end_array ∷ punctuate after_value ls
unfolding punctuate
after_item_end ls = refl

pub more_items : (depth : ℕ) (xs us ys zs : List ℕ) (d : Data) (more : Items) → SpellsAt depth xs d us → IsMark Array us Comma ys → SpellsItems depth ys more zs → SpellsItems depth xs (item d more) zs
more_items depth xs us ys zs d more s mark rest =
    let is : tokens_in after_value us ≡ tokens_in after_comma ys = ap (punctuate after_value) mark ∙ after_comma_mark (lex between ys) in
    record {
      reads = λ n p may enough.
          turn depth n (tokens_in p xs) (tokens_in after_value us) (tokens_in after_value zs) d more enough (s.reads p may (ap begins_colon mark))
          (λ m room. ap (λ ts. converted of_items (items (value depth) m ts)) is ∙ rest.reads m after_comma refl (omega (arith, ap length is)));
    }

pub last_item : (depth : ℕ) (xs us ys : List ℕ) (d : Data) → SpellsAt depth xs d us → IsMark Array us End ys → SpellsItems depth xs (item d no_items) ys
last_item depth xs us ys d s mark =
    let is : tokens_in after_value us ≡ Token.end_array ∷ tokens_in after_value ys = ap (punctuate after_value) mark ∙ after_item_end (lex between ys) in
    record {
      reads = λ n p may enough.
          turn depth n (tokens_in p xs) (tokens_in after_value us) (tokens_in after_value ys) d no_items enough (s.reads p may (ap begins_colon mark))
          (λ m room. ap (converted of_items) (items_end (value depth) m (tokens_in after_value us) (tokens_in after_value ys) room (ap after_end_array is)));
    }

-- ---- the array round them

opened : (p : Place) (ls : List Lexeme) → may_begin p ≡ true → punctuate p (token Token.begin_array ∷ ls) ≡ Token.begin_array ∷ punctuate fresh ls
unfolding punctuate
opened p ls may = allowed (may_begin p) Token.begin_array (λ n. punctuate n ls) fresh may

at_bracket : (depth : ℕ) (d : List ℕ) (at : ℕ) (ds : Items) (rs : List Token) (p : Place) → 0 < depth → at < length d → get_or d at 0 ≡ 91 → may_begin p ≡ true
    → ((n : ℕ) → length (tokens_in fresh (drop (at + 1) d)) ≤ n → converted of_items (items (value (depth - 1)) n (tokens_in fresh (drop (at + 1) d))) ≡ Some (ds, rs))
    → converted of_json (value depth (tokens_in p (drop at d))) ≡ Some (array ds, rs)
at_bracket depth d at ds rs p deep h e may inner =
    let ts = tokens_in fresh (drop (at + 1) d) in
    ap (λ us. converted of_json (value depth us)) (ap (punctuate p) (operator_lexed d at 91 h e refl) ∙ opened p (lex between (drop (at + 1) d)) may)
    ∙ ap (converted of_json) (value-begin_array depth ts deep) ∙ with_array (items (value (depth - 1)) (length ts) ts) ∙ ap (parse_map array) (inner (length ts) (omega arith))

pub array_spells : (depth : ℕ) (d : List ℕ) (at : ℕ) (ds : Items) (ys : List ℕ) → 0 < depth → at < length d → get_or d at 0 ≡ 91 → SpellsItems (depth - 1) (drop (at + 1) d) ds ys → SpellsAt depth (drop at d) (array ds) ys
array_spells depth d at ds ys deep h e s = record { reads = λ p may apart. at_bracket depth d at ds (tokens_in after_value ys) p deep h e may (λ n enough. s.reads n fresh refl enough) }

closed : (ls : List Lexeme) → punctuate fresh (token Token.end_array ∷ ls) ≡ Token.end_array ∷ punctuate after_value ls
unfolding punctuate
closed ls = refl

pub empty_array_spells : (depth : ℕ) (d : List ℕ) (at : ℕ) (ys : List ℕ) → 0 < depth → at < length d → get_or d at 0 ≡ 91 → IsMark Array (drop (at + 1) d) End ys → SpellsAt depth (drop at d) (array no_items) ys
empty_array_spells depth d at ys deep h e mark =
    let is = ap (punctuate fresh) mark ∙ closed (lex between ys) in
    record {
      reads = λ p may apart.
          at_bracket depth d at no_items (tokens_in after_value ys) p deep h e may
          (λ n enough. ap (converted of_items) (items_end (value (depth - 1)) n (tokens_in fresh (drop (at + 1) d)) (tokens_in after_value ys) enough (ap after_end_array is)));
    }

-- ---- items so far

-- The text xs begins with the items ds, each with its comma, and ys follows them.
pub record ItemsTo (depth : ℕ) (xs : List ℕ) (ds : List Data) (ys : List ℕ) : Type 0 where
  pub rest : (more : Items) (zs : List ℕ) → SpellsItems depth ys more zs → SpellsItems depth xs (before ds more) zs

pub no_items_yet : (depth : ℕ) (xs : List ℕ) → ItemsTo depth xs [] xs
no_items_yet depth xs = record { rest = λ more zs s. s }

before_last : (ds : List Data) (d : Data) (more : Items) → before ds (item d more) ≡ before (ds ++ d ∷ []) more
before_last [] d more = refl
before_last (e ∷ ds) d more = ap (item e) (before_last ds d more)

pub another_item : (depth : ℕ) (xs ys us zs : List ℕ) (ds : List Data) (d : Data) → ItemsTo depth xs ds ys → SpellsAt depth ys d us → IsMark Array us Comma zs → ItemsTo depth xs (ds ++ d ∷ []) zs
another_item depth xs ys us zs ds d t s mark =
    record { rest = λ more ws r. subst (λ k. SpellsItems depth xs k ws) (before_last ds d more) (t.rest (item d more) ws (more_items depth ys us zs ws d more s mark r)) }

pub all_items : (depth : ℕ) (xs ys us zs : List ℕ) (ds : List Data) (d : Data) → ItemsTo depth xs ds ys → SpellsAt depth ys d us → IsMark Array us End zs → SpellsItems depth xs (before (ds ++ d ∷ []) no_items) zs
all_items depth xs ys us zs ds d t s mark = subst (λ k. SpellsItems depth xs k zs) (before_last ds d no_items) (t.rest (item d no_items) zs (last_item depth ys us zs d s mark))

-- ---- integers

pub another_integer : (ds : List Data) (zs : List ℤ) (n : Num) (z : ℤ) → AreIntegers ds zs → as_integer n ≡ Some z → AreIntegers (ds ++ number n ∷ []) (zs ++ z ∷ [])
another_integer ds zs n z are e = map-append number_integer ds (number n ∷ []) ∙ ap₂ (λ a b. a ++ b ∷ []) are e ∙ sym (map-append Some zs (z ∷ []))
