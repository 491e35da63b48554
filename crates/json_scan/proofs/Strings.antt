-- The content of a string, a byte or an escape at a time.
use Rattle.std.proofs.Common.{◌≡◌, ◌≢◌, ◌∙◌, ℕ, ◌+◌, ◌-◌, ◌<◌, ◌≤◌, Bool, true, false, cond, ◌==◌, ◌&&◌, List, [], ◌∷◌, ◌++◌, length, take, drop, get_or, slice_range, nat_lt, Option, Some, None, option_and_then, ◌⊎◌, inl, inr, refl, sym, ap, ap₂, arith, append-nil}
use Rattle.std.proofs.lemmas.List.{drop_more, append_assoc}
use Rattle.std.proofs.lemmas.Bool.{ne_eqb}
use Rattle.std.proofs.lemmas.Bool.Decides.{nat_tests}
use Rattle.std.specs.Char.{is_digit, encode_utf8}
use Rattle.json.specs.Lex.{lex, between, in_string, in_escape, token, class, string_token}
use Rattle.json.specs.Lex as lexer
use Rattle.json.specs.Token.{string}
use Rattle.json.specs.Text.{content, plain, after_backslash, after_u, after_high, prepend, code_unit, short_escape, is_high_surrogate, is_low_surrogate, surrogate_pair}
use Rattle.serde_json.specs.Data as data_of
use Rattle.json_scan.specs.Prelude.{IsKey, IsString, IsTextBody, Spells}
use Rattle.json_scan.proofs.Lexemes.{from_byte, operator_lexed, byte_stands, slice_more}
use Rattle.json_scan.proofs.Values.{token_spells}

-- ---- pieces of a content

pub prepend-prepend : (a b : List ℕ) (r : Option (List ℕ)) → prepend a (prepend b r) ≡ prepend (a ++ b) r
prepend-prepend a b None = refl
prepend-prepend a b (Some s) = ap Some (sym (append_assoc a b s))

pub prepend-nil : (r : Option (List ℕ)) → r ≡ prepend [] r
prepend-nil None = refl
prepend-nil (Some s) = refl

-- ---- bytes that a string passes over

by_class : (k : lexer.Class) (x : ℕ) (xs : List ℕ) → class x ≡ k → k ≢ lexer.quote → k ≢ lexer.backslash → lex in_string (x ∷ xs) ≡ lex in_string xs
unfolding lex
by_class lexer.quote x xs e a b = absurd (a refl)
by_class lexer.backslash x xs e a b = absurd (b refl)
by_class lexer.operator x xs e a b = rw e
by_class lexer.space x xs e a b = rw e
by_class lexer.other x xs e a b = rw e

no_quote : (o s : Bool) → cond o lexer.operator (cond s lexer.space lexer.other) ≢ lexer.quote
no_quote true s e = cc
no_quote false true e = cc
no_quote false false e = cc

no_backslash : (o s : Bool) → cond o lexer.operator (cond s lexer.space lexer.other) ≢ lexer.backslash
no_backslash true s e = cc
no_backslash false true e = cc
no_backslash false false e = cc

pub passed : (d : List ℕ) (i : ℕ) → i < length d → get_or d i 0 ≢ 34 → get_or d i 0 ≢ 92 → lex in_string (drop (i + 1) d) ≡ lex in_string (drop i d)
passed d i h a b =
    let x = get_or d i 0 in
    sym (from_byte (lex in_string) d i x h refl ∙ by_class (class x) x (drop (i + 1) d) refl (rw (ne_eqb x 34 a, ne_eqb x 92 b) (no_quote _ _)) (rw (ne_eqb x 34 a, ne_eqb x 92 b) (no_backslash _ _)))

-- ---- a run of bytes that stand for themselves

plain_byte : (x : ℕ) (xs : List ℕ) → x ≢ 34 → x ≢ 92 → 32 ≤ x → content plain (x ∷ xs) ≡ prepend (x ∷ []) (content plain xs)
unfolding content
plain_byte x xs a b c = let large : nat_lt x 32 ≡ false = grind (arith, nat_tests) in rw (ne_eqb x 34 a, ne_eqb x 92 b, large)

pub run_begins : (d : List ℕ) (at : ℕ) → content plain (drop at d) ≡ prepend (slice_range d at at) (content plain (drop at d))
run_begins d at = let none : at - at ≡ 0 = omega arith in prepend-nil _ ∙ ap (λ n. prepend (take n (drop at d)) (content plain (drop at d))) (sym none)

pub run_more : (d : List ℕ) (at i : ℕ) → at ≤ i → i < length d → get_or d i 0 ≢ 34 → get_or d i 0 ≢ 92 → 32 ≤ get_or d i 0 → content plain (drop at d) ≡ prepend (slice_range d at i) (content plain (drop i d))
    → content plain (drop at d) ≡ prepend (slice_range d at (i + 1)) (content plain (drop (i + 1) d))
run_more d at i h l a b c e =
    e ∙ ap (prepend (slice_range d at i)) (ap (content plain) (drop_more d i 0 l) ∙ plain_byte (get_or d i 0) (drop (i + 1) d) a b c)
    ∙ prepend-prepend (slice_range d at i) (get_or d i 0 ∷ []) (content plain (drop (i + 1) d)) ∙ ap (λ s. prepend s (content plain (drop (i + 1) d))) (sym (slice_more d at i h l))

pub ruleset plain_run = (run_begins, run_more, passed)

-- ---- escapes

pub at_backslash : (d : List ℕ) (i : ℕ) → i < length d → content after_backslash (drop i d)
    ≡ cond (get_or d i 0 == 117) (content after_u (drop (i + 1) d)) (option_and_then (λ c. prepend (c ∷ []) (content plain (drop (i + 1) d))) (short_escape (get_or d i 0)))
unfolding content
at_backslash d i h = ap (content after_backslash) (drop_more d i 0 h)

pub escaped_over : (d : List ℕ) (i : ℕ) → i < length d → lex in_escape (drop i d) ≡ lex in_string (drop (i + 1) d)
unfolding lex
escaped_over d i h = ap (lex in_escape) (drop_more d i 0 h)

four : (d : List ℕ) (i j : ℕ) → j ≡ i + 4 → j ≤ length d → drop i d ≡ get_or d i 0 ∷ get_or d (i + 1) 0 ∷ get_or d (i + 2) 0 ∷ get_or d (i + 3) 0 ∷ drop j d
four d i j e h =
    let more : (k l : ℕ) → l ≡ k + 1 → k < length d → drop k d ≡ get_or d k 0 ∷ drop l d = λ k l is within. drop_more d k 0 within ∙ ap (λ n. get_or d k 0 ∷ drop n d) (sym is) in
    more i (i + 1) refl (omega arith)
    ∙ ap (λ t. get_or d i 0 ∷ t) (more (i + 1) (i + 2) (omega arith) (omega arith) ∙ ap (λ t. get_or d (i + 1) 0 ∷ t) (more (i + 2) (i + 3) (omega arith) (omega arith) ∙ ap (λ t. get_or d (i + 2) 0 ∷ t) (more (i + 3) j (omega arith) (omega arith))))

-- ---- what the bytes of an escape stand for

pub ascii_encoded : (c : ℕ) → c < 128 → encode_utf8 c ≡ c ∷ []
unfolding encode_utf8
ascii_encoded c h = let small : nat_lt c 128 ≡ true = grind (arith, nat_tests) in rw small

module _ (d : List ℕ) (i : ℕ) where
  pub at_u : i < length d → get_or d i 0 ≡ 117 → content after_backslash (drop i d) ≡ content after_u (drop (i + 1) d)
  at_u h e = at_backslash d i h ∙ ap (λ x. cond (x == 117) (content after_u (drop (i + 1) d)) (option_and_then (λ c. prepend (c ∷ []) (content plain (drop (i + 1) d))) (short_escape x))) e

  pub at_short : (c : ℕ) → i < length d → get_or d i 0 ≢ 117 → Some c ≡ short_escape (get_or d i 0) → c < 128 → content after_backslash (drop i d) ≡ prepend (encode_utf8 c) (content plain (drop (i + 1) d))
  at_short c h other e small =
      at_backslash d i h ∙ rw (ne_eqb _ _ other) (ap (option_and_then (λ k. prepend (k ∷ []) (content plain (drop (i + 1) d)))) (sym e)) ∙ ap (λ s. prepend s (content plain (drop (i + 1) d))) (sym (ascii_encoded c small))

  at_digits : (w : Option ℕ) → i + 4 ≤ length d → code_unit (get_or d i 0) (get_or d (i + 1) 0) (get_or d (i + 2) 0) (get_or d (i + 3) 0) ≡ w → content after_u (drop i d)
      ≡ option_and_then (λ u. cond (is_high_surrogate u) (content (after_high u) (drop (i + 4) d)) (cond (is_low_surrogate u) None (prepend (encode_utf8 u) (content plain (drop (i + 4) d))))) w
  unfolding content
  at_digits w h e =
      ap (content after_u) (four d i (i + 4) refl h)
      ∙ ap (option_and_then (λ u. cond (is_high_surrogate u) (content (after_high u) (drop (i + 4) d)) (cond (is_low_surrogate u) None (prepend (encode_utf8 u) (content plain (drop (i + 4) d)))))) e

  module _ (u : ℕ) (h : i + 4 ≤ length d) (e : code_unit (get_or d i 0) (get_or d (i + 1) 0) (get_or d (i + 2) 0) (get_or d (i + 3) 0) ≡ Some u) where
    pub at_high : 0xd800 ≤ u → u < 0xdc00 → content after_u (drop i d) ≡ content (after_high u) (drop (i + 4) d)
    at_high low high = let is : is_high_surrogate u ≡ true = grind (arith, nat_tests) in at_digits (Some u) h e ∙ rw is

    pub at_character : (u < 0xd800) ⊎ (0xe000 ≤ u) → content after_u (drop i d) ≡ prepend (encode_utf8 u) (content plain (drop (i + 4) d))
    at_character (inl below) =
        let no_high : is_high_surrogate u ≡ false = grind (arith, nat_tests) in
        let no_low : is_low_surrogate u ≡ false = grind (arith, nat_tests) in
        at_digits (Some u) h e ∙ rw (no_high, no_low)
    at_character (inr above) =
        let no_high : is_high_surrogate u ≡ false = grind (arith, nat_tests) in
        let no_low : is_low_surrogate u ≡ false = grind (arith, nat_tests) in
        at_digits (Some u) h e ∙ rw (no_high, no_low)

  pub at_pair : (high low j : ℕ) → j ≡ i + 2 → i + 6 ≤ length d → get_or d i 0 ≡ 92 → get_or d (i + 1) 0 ≡ 117 → code_unit (get_or d j 0) (get_or d (j + 1) 0) (get_or d (j + 2) 0) (get_or d (j + 3) 0) ≡ Some low → 0xdc00 ≤ low → low < 0xe000
      → content (after_high high) (drop i d) ≡ prepend (encode_utf8 (surrogate_pair high low)) (content plain (drop (i + 6) d))
  unfolding content
  at_pair high low j is h slash letter e from to =
      let second : i + 1 + 1 ≡ j = omega arith in
      let within : is_low_surrogate low ≡ true = grind (arith, nat_tests) in
      ap (content (after_high high))
      (drop_more d i 0 (omega arith) ∙ ap (λ t. get_or d i 0 ∷ t) (drop_more d (i + 1) 0 (omega arith) ∙ ap (λ n. get_or d (i + 1) 0 ∷ drop n d) second ∙ ap (λ t. get_or d (i + 1) 0 ∷ t) (four d j (i + 6) (omega arith) h)))
      ∙ rw (slash, letter, e, within)

-- ---- they are passed over

all_of : (p q r s : Bool) (v u : ℕ) → cond (p && q && r && s) (Some v) None ≡ Some u → (p ≡ true) × (q ≡ true) × (r ≡ true) × (s ≡ true)
all_of true true true true v u e = (refl, refl, refl, refl)
all_of true true true false v u e = absurd (cc)
all_of true true false s v u e = absurd (cc)
all_of true false r s v u e = absurd (cc)
all_of false q r s v u e = absurd (cc)

hex_digits : (a b c d u : ℕ) → code_unit a b c d ≡ Some u → (is_digit a 16 ≡ true) × (is_digit b 16 ≡ true) × (is_digit c 16 ≡ true) × (is_digit d 16 ≡ true)
unfolding code_unit
hex_digits a b c d u e = all_of (is_digit a 16) (is_digit b 16) (is_digit c 16) (is_digit d 16) _ u e

hex_passed : (d : List ℕ) (i j : ℕ) → j ≡ i + 1 → j ≤ length d → is_digit (get_or d i 0) 16 ≡ true → lex in_string (drop i d) ≡ lex in_string (drop j d)
hex_passed d i j is h e =
    let no_quote : get_or d i 0 ≢ 34 = λ q. grind (arith, nat_tests) in
    let no_slash : get_or d i 0 ≢ 92 = λ q. grind (arith, nat_tests) in
    sym (passed d i (omega arith) no_quote no_slash) ∙ ap (λ n. lex in_string (drop n d)) (sym is)

pub unit_passed : (d : List ℕ) (i j u : ℕ) → j ≡ i + 4 → j ≤ length d → code_unit (get_or d i 0) (get_or d (i + 1) 0) (get_or d (i + 2) 0) (get_or d (i + 3) 0) ≡ Some u → lex in_string (drop i d) ≡ lex in_string (drop j d)
unit_passed d i j u is h e =
    let hex = hex_digits _ _ _ _ u e in
    hex_passed d i (i + 1) refl (omega arith) hex.0 ∙ hex_passed d (i + 1) (i + 2) (omega arith) (omega arith) hex.1 ∙ hex_passed d (i + 2) (i + 3) (omega arith) (omega arith) hex.2
    ∙ hex_passed d (i + 3) j (omega arith) (omega arith) hex.3

after_slash : (xs : List ℕ) → lex in_string (92 ∷ xs) ≡ lex in_escape xs
unfolding lex
after_slash xs = refl

pub slash_passed : (d : List ℕ) (i : ℕ) → i < length d → get_or d i 0 ≡ 92 → lex in_string (drop i d) ≡ lex in_escape (drop (i + 1) d)
slash_passed d i h e = from_byte (lex in_string) d i 92 h e ∙ after_slash (drop (i + 1) d)

-- ---- a string so far

-- The content that begins at a place is s and then what follows at the other.
pub record StringTo (d : List ℕ) (at : ℕ) (s : List ℕ) (end : ℕ) : Type 0 where
  pub content : content plain (drop at d) ≡ prepend s (content plain (drop end d))
  pub passed : lex in_string (drop end d) ≡ lex in_string (drop at d)

pub string_begins : (d : List ℕ) (at : ℕ) → StringTo d at [] at
string_begins d at = record { content = prepend-nil _; passed = refl }

module _ (d : List ℕ) (at : ℕ) (s : List ℕ) (i : ℕ) (t : StringTo d at s i) where
  pub string_run : (r : List ℕ) (j : ℕ) → content plain (drop i d) ≡ prepend r (content plain (drop j d)) → lex in_string (drop j d) ≡ lex in_string (drop i d) → StringTo d at (s ++ r) j
  string_run r j e over = record { content = t.content ∙ ap (prepend s) e ∙ prepend-prepend s r (content plain (drop j d)); passed = over ∙ t.passed }

  slash_content : i < length d → get_or d i 0 ≡ 92 → content plain (drop i d) ≡ content after_backslash (drop (i + 1) d)
  unfolding content
  slash_content h e = from_byte (content plain) d i 92 h e

  pub string_escape : (r : List ℕ) (j : ℕ) → i < length d → get_or d i 0 ≡ 92 → content after_backslash (drop (i + 1) d) ≡ prepend r (content plain (drop j d)) → lex in_escape (drop (i + 1) d) ≡ lex in_string (drop j d) → StringTo d at (s ++ r) j
  string_escape r j h slash e over = string_run r j (slash_content h slash ∙ e) (sym over ∙ sym (slash_passed d i h slash))

  quote_content : i < length d → get_or d i 0 ≡ 34 → content plain (drop i d) ≡ Some []
  unfolding content
  quote_content h e = from_byte (content plain) d i 34 h e

  quote_passed : i < length d → get_or d i 0 ≡ 34 → lex in_string (drop i d) ≡ lex between (drop (i + 1) d)
  unfolding lex
  quote_passed h e = from_byte (lex in_string) d i 34 h e

  pub string_ends : i < length d → get_or d i 0 ≡ 34 → IsTextBody (drop at d) s (drop (i + 1) d)
  string_ends h e = (t.content ∙ ap (prepend s) (quote_content h e) ∙ ap Some (append-nil s), sym t.passed ∙ quote_passed h e)

quote_lexed : (xs : List ℕ) → lex between (34 ∷ xs) ≡ token (string_token (content plain xs)) ∷ lex in_string xs
unfolding lex
quote_lexed xs = refl

-- a string is one lexeme
pub string_lexed : (d : List ℕ) (quote : ℕ) (s ys : List ℕ) → quote < length d → get_or d quote 0 ≡ 34 → IsTextBody (drop (quote + 1) d) s ys → lex between (drop quote d) ≡ token (string s) ∷ lex between ys
string_lexed d quote s ys h q body = from_byte (lex between) d quote 34 h q ∙ quote_lexed (drop (quote + 1) d) ∙ ap₂ (λ o ls. token (string_token o) ∷ ls) body.0 body.1

pub text_lexed : (d : List ℕ) (at quote : ℕ) (s ys : List ℕ) → lex between (drop quote d) ≡ lex between (drop at d) → get_or d quote 32 ≡ 34 → IsTextBody (drop (quote + 1) d) s ys → IsString (drop at d) s ys
text_lexed d at quote s ys same q body =
    let first = byte_stands d quote 34 q (λ e. omega arith) in
    sym same ∙ string_lexed d quote s ys first.0 first.1 body

pub text_spells : (xs ys s : List ℕ) → IsString xs s ys → Spells xs (data_of.string s) ys
text_spells xs ys s text = token_spells xs ys (string s) (data_of.string s) text refl

pub string_spells : (d : List ℕ) (at quote : ℕ) (s ys : List ℕ) → lex between (drop quote d) ≡ lex between (drop at d) → get_or d quote 32 ≡ 34 → IsTextBody (drop (quote + 1) d) s ys → Spells (drop at d) (data_of.string s) ys
string_spells d at quote s ys same q body = text_spells (drop at d) ys s (text_lexed d at quote s ys same q body)

-- a string in which nothing is escaped is a part of the text
pub plain_text : (d : List ℕ) (at quote stop : ℕ) → lex between (drop quote d) ≡ lex between (drop at d) → get_or d quote 32 ≡ 34 → content plain (drop (quote + 1) d) ≡ prepend (slice_range d (quote + 1) stop) (content plain (drop stop d))
    → lex in_string (drop stop d) ≡ lex in_string (drop (quote + 1) d) → get_or d stop 32 ≡ 34 → IsString (drop at d) (slice_range d (quote + 1) stop) (drop (stop + 1) d)
plain_text d at quote stop same q is over close =
    let first = byte_stands d quote 34 q (λ e. omega arith) in
    let last = byte_stands d stop 34 close (λ e. omega arith) in
    let run = string_run d (quote + 1) [] (quote + 1) (string_begins d (quote + 1)) (slice_range d (quote + 1) stop) stop is over in
    sym same ∙ string_lexed d quote (slice_range d (quote + 1) stop) (drop (stop + 1) d) first.0 first.1 (string_ends d (quote + 1) (slice_range d (quote + 1) stop) stop run last.0 last.1)

pub key_lexed : (d : List ℕ) (at end mark : ℕ) (s : List ℕ) → IsString (drop at d) s (drop end d) → lex between (drop mark d) ≡ lex between (drop end d) → get_or d mark 32 ≡ 58 → IsKey (drop at d) s (drop (mark + 1) d)
key_lexed d at end mark s text over c =
    let colon = byte_stands d mark 58 c (λ e. omega arith) in
    text ∙ ap (λ ls. token (string s) ∷ ls) (sym over ∙ operator_lexed d mark 58 colon.0 colon.1 refl)

pub key_spells : (d : List ℕ) (at quote end mark : ℕ) (s : List ℕ) → lex between (drop quote d) ≡ lex between (drop at d) → get_or d quote 32 ≡ 34 → IsTextBody (drop (quote + 1) d) s (drop end d) → lex between (drop mark d) ≡ lex between (drop end d)
    → get_or d mark 32 ≡ 58 → IsKey (drop at d) s (drop (mark + 1) d)
key_spells d at quote end mark s same q body over c = key_lexed d at end mark s (text_lexed d at quote s (drop end d) same q body) over c
