-- The members of an object, one after another.
use Rattle.std.proofs.Common.{◌≡◌, ◌∙◌, ℕ, suc, ◌+◌, ◌-◌, ◌<◌, ◌≤◌, true, List, ◌∷◌, length, drop, get_or, Option, Some, None, refl, sym, ap, arith}
use Rattle.json.specs.Token.{Token}
use Rattle.json.specs.Json as json
use Rattle.json.specs.Json.{parse_map, read_key, members, value}
use Rattle.json.specs.Lex.{Lexeme, token, colon, lex, between, punctuate, Place, may_begin, fresh, after_value, after_comma, after_key, begins_colon}
use Rattle.json.proofs.Grammar.{left, members_end, members_more, value-begin_object, skip_value-shorter}
use Rattle.serde_json.specs.Data.{Data, object, Members, no_members, put}
use Rattle.serde_json.specs.Find.{get_member}
use Rattle.serde_json.proofs.Views.{get_member-put, get_member-put_other}
use Rattle.serde_json.specs.Read.{of_json, of_members, converted}
use Rattle.json_scan.specs.Prelude.{IsKey, IsMark, IsMemberAt, SpellsAt, SpellsMembers, tokens_in}
use Rattle.json_scan.specs.declared.mark.Container.TheVariants.{Object}
use Rattle.json_scan.specs.declared.mark.Mark.TheVariants.{Comma, End}
use Rattle.json_scan.proofs.Lexemes.{operator_lexed}
use Rattle.json_scan.proofs.Values.{unconverted, inside, allowed, after_comma_mark}

with_member : (k : List ℕ) (j : json.Json) (d : Data) (found : Members) → of_json j ≡ Some d → (o : Option (json.Members × List Token))
    → converted (λ ms. of_members ms found) (parse_map (json.member k j) o) ≡ converted (λ ms. of_members ms (put k d found)) o
with_member k j d found e None = refl
with_member k j d found e (Some p) = rw e

with_object : (o : Option (json.Members × List Token)) → converted of_json (parse_map json.object o) ≡ parse_map object (converted (λ ms. of_members ms no_members) o)
with_object None = refl
with_object (Some p) = inside object p.1 (of_members p.0 no_members)

turn : (depth n : ℕ) (ts ss us rs : List Token) (k : List ℕ) (d : Data) (found ms : Members) → length ts ≤ n → ts ≡ Token.key k ∷ ss → converted of_json (value depth ss) ≡ Some (d, us)
    → ((m : ℕ) → length us ≤ m → converted (λ js. of_members js (put k d found)) (members (value depth) m us) ≡ Some (ms, rs)) → converted (λ js. of_members js found) (members (value depth) n ts) ≡ Some (ms, rs)
turn depth n ts ss us rs k d found ms enough is e rest =
    let j = unconverted of_json (value depth ss) d us e in
    let shorter : length us < length ss = skip_value-shorter depth ss us (ap left j.1) in
    let longer : length ts ≡ suc (length ss) = ap length is in
    ap (converted (λ js. of_members js found)) (members_more (value depth) n k ts ss us j.0 (omega arith) (ap read_key is) j.1) ∙ with_member k j.0 d found j.2 _ ∙ rest (n - 1) (omega arith)

-- ---- keys, and the marks after a member

keyed : (p : Place) (k : List ℕ) (ls : List Lexeme) → may_begin p ≡ true → punctuate p (token (Token.string k) ∷ colon ∷ ls) ≡ Token.key k ∷ punctuate fresh ls
unfolding punctuate
keyed p k ls may = allowed (may_begin p) (Token.key k) (λ n. punctuate n (colon ∷ ls)) after_key may

after_member_end : (ls : List Lexeme) → punctuate after_value (token Token.end_object ∷ ls) ≡ Token.end_object ∷ punctuate after_value ls
unfolding punctuate
after_member_end ls = refl

module _ (depth : ℕ) (xs ys us zs k : List ℕ) (d : Data) (found : Members) (key : IsKey xs k ys) (s : SpellsAt depth ys d us) where
  pub more_members : (ms : Members) (ws : List ℕ) → IsMark Object us Comma zs → SpellsMembers depth zs (put k d found) ms ws → SpellsMembers depth xs found ms ws
  more_members ms ws mark rest =
      let is : tokens_in after_value us ≡ tokens_in after_comma zs = ap (punctuate after_value) mark ∙ after_comma_mark (lex between zs) in
      record {
        reads = λ n p may enough.
            turn depth n (tokens_in p xs) (tokens_in fresh ys) (tokens_in after_value us) (tokens_in after_value ws) k d found ms enough (ap (punctuate p) key ∙ keyed p k (lex between ys) may) (s.reads fresh refl (ap begins_colon mark))
            (λ m room. ap (λ ts. converted (λ js. of_members js (put k d found)) (members (value depth) m ts)) is ∙ rest.reads m after_comma refl (omega (arith, ap length is)));
      }

  pub last_member : IsMark Object us End zs → SpellsMembers depth xs found (put k d found) zs
  last_member mark =
      let is : tokens_in after_value us ≡ Token.end_object ∷ tokens_in after_value zs = ap (punctuate after_value) mark ∙ after_member_end (lex between zs) in
      record {
        reads = λ n p may enough.
            turn depth n (tokens_in p xs) (tokens_in fresh ys) (tokens_in after_value us) (tokens_in after_value zs) k d found (put k d found) enough (ap (punctuate p) key ∙ keyed p k (lex between ys) may)
            (s.reads fresh refl (ap begins_colon mark))
            (λ m room. ap (converted (λ js. of_members js (put k d found))) (members_end (value depth) m (tokens_in after_value us) (tokens_in after_value zs) room (ap read_key is)));
      }

-- ---- the object round them

opened : (p : Place) (ls : List Lexeme) → may_begin p ≡ true → punctuate p (token Token.begin_object ∷ ls) ≡ Token.begin_object ∷ punctuate fresh ls
unfolding punctuate
opened p ls may = allowed (may_begin p) Token.begin_object (λ n. punctuate n ls) fresh may

at_brace : (depth : ℕ) (d : List ℕ) (at : ℕ) (ms : Members) (rs : List Token) (p : Place) → 0 < depth → at < length d → get_or d at 0 ≡ 123 → may_begin p ≡ true
    → ((n : ℕ) → length (tokens_in fresh (drop (at + 1) d)) ≤ n → converted (λ js. of_members js no_members) (members (value (depth - 1)) n (tokens_in fresh (drop (at + 1) d))) ≡ Some (ms, rs))
    → converted of_json (value depth (tokens_in p (drop at d))) ≡ Some (object ms, rs)
at_brace depth d at ms rs p deep h e may inner =
    let ts = tokens_in fresh (drop (at + 1) d) in
    ap (λ us. converted of_json (value depth us)) (ap (punctuate p) (operator_lexed d at 123 h e refl) ∙ opened p (lex between (drop (at + 1) d)) may)
    ∙ ap (converted of_json) (value-begin_object depth ts deep) ∙ with_object (members (value (depth - 1)) (length ts) ts) ∙ ap (parse_map object) (inner (length ts) (omega arith))

pub object_spells : (depth : ℕ) (d : List ℕ) (at : ℕ) (ms : Members) (ys : List ℕ) → 0 < depth → at < length d → get_or d at 0 ≡ 123 → SpellsMembers (depth - 1) (drop (at + 1) d) no_members ms ys → SpellsAt depth (drop at d) (object ms) ys
object_spells depth d at ms ys deep h e s = record { reads = λ p may apart. at_brace depth d at ms (tokens_in after_value ys) p deep h e may (λ n enough. s.reads n fresh refl enough) }

closed : (ls : List Lexeme) → punctuate fresh (token Token.end_object ∷ ls) ≡ Token.end_object ∷ punctuate after_value ls
unfolding punctuate
closed ls = refl

pub empty_object_spells : (depth : ℕ) (d : List ℕ) (at : ℕ) (ys : List ℕ) → 0 < depth → at < length d → get_or d at 0 ≡ 123 → IsMark Object (drop (at + 1) d) End ys → SpellsAt depth (drop at d) (object no_members) ys
empty_object_spells depth d at ys deep h e mark =
    let is = ap (punctuate fresh) mark ∙ closed (lex between ys) in
    record {
      reads = λ p may apart.
          at_brace depth d at no_members (tokens_in after_value ys) p deep h e may
          (λ n enough. ap (converted (λ js. of_members js no_members)) (members_end (value (depth - 1)) n (tokens_in fresh (drop (at + 1) d)) (tokens_in after_value ys) enough (ap read_key is)));
    }

-- ---- members so far

-- The text xs begins with members that make `now` of `found`, each with its comma, and ys follows them.
pub record MembersTo (depth : ℕ) (xs : List ℕ) (found now : Members) (ys : List ℕ) : Type 0 where
  pub rest : (ms : Members) (zs : List ℕ) → SpellsMembers depth ys now ms zs → SpellsMembers depth xs found ms zs

pub no_members_yet : (depth : ℕ) (xs : List ℕ) (found : Members) → MembersTo depth xs found found xs
no_members_yet depth xs found = record { rest = λ ms zs s. s }

module _ (depth : ℕ) (xs ws ys us zs k : List ℕ) (d : Data) (found now : Members) (t : MembersTo depth xs found now ws) (key : IsKey ws k ys) (s : SpellsAt depth ys d us) where
  pub another_member : IsMark Object us Comma zs → MembersTo depth xs found (put k d now) zs
  another_member mark = record { rest = λ ms vs r. t.rest ms vs (more_members depth ws ys us zs k d now key s ms vs mark r) }

  pub all_members : IsMark Object us End zs → SpellsMembers depth xs found (put k d now) zs
  all_members mark = t.rest (put k d now) zs (last_member depth ws ys us zs k d now key s mark)

-- ---- a member of a name

pub noted_member : (q k : List ℕ) (d : Data) (ms : Members) → k ≡ q → get_member q (put k d ms) ≡ Some d
noted_member q k d ms e = ap (λ n. get_member n (put k d ms)) (sym e) ∙ get_member-put k d ms

pub kept_member : (depth : ℕ) (text q k : List ℕ) (d : Data) (ms : Members) (place : Option ℕ) → (q ≡ k → ⊥) → IsMemberAt depth text q ms place → IsMemberAt depth text q (put k d ms) place
kept_member depth text q k d ms None apart h = get_member-put_other q k d ms apart ∙ h
kept_member depth text q k d ms (Some at) apart h = (h.0, get_member-put_other q k d ms apart ∙ h.1, h.2, h.3)
