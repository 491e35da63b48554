-- Values that stand at a place: those of one token, and what the grammar makes of a text of which only the lexemes count.
use Rattle.std.proofs.Common.{◌≡◌, ◌≢◌, ◌∙◌, ℕ, ◌<◌, Bool, true, false, List, [], ◌∷◌, length, drop, get_or, Option, Some, None, option_map, option_and_then, Result, Ok, Err, IfOk, refl, sym, ap}
use Rattle.json.specs.Token.{Token}
use Rattle.json.specs.Json as json
use Rattle.json.specs.Json.{parse_map, value}
use Rattle.json.specs.Lex.{Lexeme, token, comma, lex, between, punctuate, Place, may_begin, after_value, after_comma, begins_colon, if_allowed}
use Rattle.json.proofs.Grammar.{value_is}
use Rattle.serde_json.specs.Data.{Data, Items, Members}
use Rattle.serde_json.specs.Data as data_of
use Rattle.serde_json.specs.Read.{of_json, converted, number_of, max_depth, read}
use Rattle.json_scan.specs.Spelling.{tokens_in, SpellsAt, Spells}
use Rattle.json_scan.proofs.Lexemes.{byte_stands}

-- ---- under the conversion to data

abbrev either : {A : Type 0} → A → Option A → A
either a None = a
either a (Some b) = b

pairs : {B : Type 0} (r s : List Token) (x : Option B) (b : B) → option_map {U = B × List Token} (λ y. (y, r)) x ≡ Some (b, s) → (r ≡ s) × (x ≡ Some b)
pairs r s None b e = absurd (cc)
pairs r s (Some y) b e = let same = ap (either (y, r)) e in (ap (λ p. p.1) same, ap (λ p. Some p.0) same)

-- what was read before the conversion
pub unconverted : {A B : Type 0} (f : A → Option B) (o : Option (A × List Token)) (b : B) (r : List Token) → converted f o ≡ Some (b, r) → (a : A) × (o ≡ Some (a, r)) × (f a ≡ Some b)
unconverted f None b r e = absurd (cc)
unconverted f (Some p) b r e = let both = pairs p.1 r (f p.0) b e in (p.0, ap (λ s. Some (p.0, s)) both.0, both.1)

-- a conversion that goes inside a constructor
pub inside : {A B : Type 0} (g : A → B) (r : List Token) (x : Option A) → option_map (λ b. (b, r)) (option_map g x) ≡ parse_map g (option_map (λ a. (a, r)) x)
inside g r None = refl
inside g r (Some a) = refl

-- ---- a token that is a value

abbrev pub scalar_of : Token → Option Data
scalar_of Token.begin_object = None
scalar_of Token.end_object = None
scalar_of Token.begin_array = None
scalar_of Token.end_array = None
scalar_of (Token.key s) = None
scalar_of (Token.string s) = Some (data_of.string s)
scalar_of (Token.number w) = option_map data_of.number (number_of w)
scalar_of (Token.boolean b) = Some (data_of.boolean b)
scalar_of Token.null = Some data_of.null
scalar_of Token.bad = None

pub allowed : (b : Bool) (t : Token) (k : Place → List Token) (next : Place) → b ≡ true → if_allowed b t k next ≡ t ∷ k next
allowed b t k next e = ap (λ x. if_allowed x t k next) e

-- a comma goes on before the next item or member
pub after_comma_mark : (ls : List Lexeme) → punctuate after_value (comma ∷ ls) ≡ punctuate after_comma ls
unfolding punctuate
after_comma_mark ls = refl

placed : (t : Token) (d : Data) (p : Place) (ls : List Lexeme) → scalar_of t ≡ Some d → may_begin p ≡ true → begins_colon ls ≡ false → punctuate p (token t ∷ ls) ≡ t ∷ punctuate after_value ls
unfolding punctuate
placed Token.begin_object d p ls e may apart = absurd (cc)
placed Token.end_object d p ls e may apart = absurd (cc)
placed Token.begin_array d p ls e may apart = absurd (cc)
placed Token.end_array d p ls e may apart = absurd (cc)
placed (Token.key s) d p ls e may apart = absurd (cc)
placed (Token.string s) d p ls e may apart = rw apart (allowed (may_begin p) (Token.string s) (λ n. punctuate n ls) after_value may)
placed (Token.number w) d p ls e may apart = allowed (may_begin p) (Token.number w) (λ n. punctuate n ls) after_value may
placed (Token.boolean b) d p ls e may apart = allowed (may_begin p) (Token.boolean b) (λ n. punctuate n ls) after_value may
placed Token.null d p ls e may apart = allowed (may_begin p) Token.null (λ n. punctuate n ls) after_value may
placed Token.bad d p ls e may apart = absurd (cc)

one_token : (t : Token) (d : Data) (depth : ℕ) (us : List Token) → scalar_of t ≡ Some d → converted of_json (value depth (t ∷ us)) ≡ Some (d, us)
one_token Token.begin_object d depth us e = absurd (cc)
one_token Token.end_object d depth us e = absurd (cc)
one_token Token.begin_array d depth us e = absurd (cc)
one_token Token.end_array d depth us e = absurd (cc)
one_token (Token.key s) d depth us e = absurd (cc)
one_token (Token.string s) d depth us e = ap (converted of_json) (value_is depth (Token.string s ∷ us)) ∙ ap (option_map (λ b. (b, us))) e
one_token (Token.number w) d depth us e = ap (converted of_json) (value_is depth (Token.number w ∷ us)) ∙ ap (option_map (λ b. (b, us))) e
one_token (Token.boolean b) d depth us e = ap (converted of_json) (value_is depth (Token.boolean b ∷ us)) ∙ ap (option_map (λ b. (b, us))) e
one_token Token.null d depth us e = ap (converted of_json) (value_is depth (Token.null ∷ us)) ∙ ap (option_map (λ b. (b, us))) e
one_token Token.bad d depth us e = absurd (cc)

-- A text of which the first lexeme is such a token has its value there, at any depth.
pub token_spells : (xs ys : List ℕ) (t : Token) (d : Data) → lex between xs ≡ token t ∷ lex between ys → scalar_of t ≡ Some d → Spells xs d ys
token_spells xs ys t d lexed is depth =
    record {
      reads = λ p may apart.
          ap (λ ls. converted of_json (value depth (punctuate p ls))) lexed ∙ ap (λ ts. converted of_json (value depth ts)) (placed t d p (lex between ys) is may apart)
          ∙ one_token t d depth (tokens_in after_value ys) is;
    }

-- ---- only the lexemes count

pub respaced : (depth : ℕ) (xs zs ys : List ℕ) (d : Data) → lex between xs ≡ lex between zs → SpellsAt depth xs d ys → SpellsAt depth zs d ys
respaced depth xs zs ys d same s = record { reads = λ p may apart. ap (λ ls. converted of_json (value depth (punctuate p ls))) (sym same) ∙ s.reads p may apart }

-- a value behind spaces that begins with a byte
pub behind_spaces : (depth : ℕ) (bytes d : List ℕ) (at start x : ℕ) (v : Data) (ys : List ℕ) → bytes ≡ d → lex between (drop start bytes) ≡ lex between (drop at bytes) → get_or bytes start 32 ≡ x → x ≢ 32
    → (start < length d → get_or d start 0 ≡ x → SpellsAt depth (drop start d) v ys) → SpellsAt depth (drop at d) v ys
behind_spaces depth bytes d at start x v ys same spaces e apart there =
    let first = byte_stands d start x (rw same at e) apart in
    respaced depth (drop start d) (drop at d) ys v (rw same at spaces) (there first.0 first.1)

-- ---- one value at a place

first : (p q : Data × List Token) → Some p ≡ Some q → p.0 ≡ q.0
first p q e = ap (λ o. (either p o).0) e

pub same_value : (depth : ℕ) (xs ys zs : List ℕ) (d e : Data) → SpellsAt depth xs d ys → SpellsAt depth xs e zs → begins_colon (lex between ys) ≡ false → begins_colon (lex between zs) ≡ false → d ≡ e
same_value depth xs ys zs d e s t apart away = first (d, tokens_in after_value ys) (e, tokens_in after_value zs) (sym (s.reads Place.fresh refl apart) ∙ t.reads Place.fresh refl away)

-- ---- a whole text

ended : (ys : List ℕ) → lex between ys ≡ [] → tokens_in after_value ys ≡ []
unfolding punctuate
ended ys e = ap (punctuate after_value) e

read_of : (o : Option (json.Json × List Token)) (j : json.Json) (d : Data) → o ≡ Some (j, []) → of_json j ≡ Some d → option_and_then of_json (option_and_then (λ p. json.if_last p.0 p.1) o) ≡ Some d
read_of o j d e f = ap (λ r. option_and_then of_json (option_and_then (λ p. json.if_last p.0 p.1) r)) e ∙ f

pub whole_document : (xs ys : List ℕ) (d : Data) → SpellsAt max_depth xs d ys → lex between ys ≡ [] → read xs ≡ Some d
whole_document xs ys d s e =
    let j = unconverted of_json (value max_depth (tokens_in Place.fresh xs)) d (tokens_in after_value ys) (s.reads Place.fresh refl (ap begins_colon e)) in
    read_of (value max_depth (tokens_in Place.fresh xs)) j.0 d (j.1 ∙ ap (λ ts. Some (j.0, ts)) (ended ys e)) j.2

-- ---- of results

pub if_ok_then : {T E : Type 0} (r : Result T E) {P Q : T → Type 0} → IfOk r P → ((x : T) → P x → Q x) → IfOk r Q
if_ok_then (Ok x) p f = f x p
if_ok_then (Err e) p f = tt
