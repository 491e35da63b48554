-- The compact text of a plain value reads back as the value.
use Rattle.std.proofs.Common.{◌≡◌, ◌∙◌, ℕ, suc, max, ◌≤◌, pos, negsuc, List, [], Some, option_map, option_and_then, refl, sym, ap, ap₂, subst, append-nil}
use Rattle.std.specs.Prelude.{⊤}
use Rattle.std.specs.Ordering.{match_ordering}
use Rattle.json.specs.Json.{if_last, value}
use Rattle.json.specs.Lex.{tokens}
use Rattle.json.specs.Print.{IsNumber}
use Rattle.json.specs.Tree as tree
use Rattle.json.specs.Tree.{HasNumbers, ItemsHaveNumbers, MembersHaveNumbers, json_tokens}
use Rattle.json.proofs.Printed.Decimals.{IsNumber-decimal, IsNumber-signed_decimal}
use Rattle.json.proofs.Printed.Tokens.{tokens-print}
use Rattle.json.proofs.Printed.Trees.{ArePrintable-json_tokens, value-json_tokens}
use Rattle.json_base.specs.Prelude.{Data, Items, Members, Num, array, boolean, compact_text, depth, float, item, items_depth, items_outline, max_depth, member, members_depth, members_outline, negative, no_items, no_members, null, number, number_of, number_text, object, of_items, of_json, of_members, outline, put, read, string, unsigned}
use Rattle.json_base.proofs.Numbers.{number_of-decimal, number_of-negative}
use Rattle.json_base.proofs.Texts.{print-outline}
use Rattle.json_print.specs.Plain.{AreBehind, ArePlain, ArePlainMembers, IsPlain, IsWhole}

-- ---- numbers

number_again : (n : Num) → IsWhole n → number_of (number_text n) ≡ Some n
number_again (unsigned n) h = number_of-decimal n h
number_again (negative (pos n)) h = absurd h
number_again (negative (negsuc n)) h = number_of-negative n h
number_again (float x) h = absurd h

number_is : (n : Num) → IsWhole n → IsNumber (number_text n)
number_is (unsigned n) h = IsNumber-decimal n h
number_is (negative (pos n)) h = absurd h
number_is (negative (negsuc n)) h = IsNumber-signed_decimal (negsuc n) h
number_is (float x) h = absurd h

mutual
  HasNumbers-outline : (d : Data) → IsPlain d → HasNumbers (outline d)
  HasNumbers-outline null h = tt
  HasNumbers-outline (boolean b) h = tt
  HasNumbers-outline (number n) h = number_is n h
  HasNumbers-outline (string s) h = tt
  HasNumbers-outline (array ds) h = ItemsHaveNumbers-outline ds h
  HasNumbers-outline (object ms) h = MembersHaveNumbers-outline ms h

  ItemsHaveNumbers-outline : (ds : Items) → ArePlain ds → ItemsHaveNumbers (items_outline ds)
  ItemsHaveNumbers-outline no_items h = tt
  ItemsHaveNumbers-outline (item d ds) h = (HasNumbers-outline d h.0, ItemsHaveNumbers-outline ds h.1)

  MembersHaveNumbers-outline : (ms : Members) → ArePlainMembers ms → MembersHaveNumbers (members_outline ms)
  MembersHaveNumbers-outline no_members h = tt
  MembersHaveNumbers-outline (member k d ms) h = (HasNumbers-outline d h.0, MembersHaveNumbers-outline ms h.2)

-- ---- depth

mutual
  depth-outline : (d : Data) → tree.depth (outline d) ≡ depth d
  depth-outline null = refl
  depth-outline (boolean b) = refl
  depth-outline (number n) = refl
  depth-outline (string s) = refl
  depth-outline (array ds) = ap suc (items_depth-outline ds)
  depth-outline (object ms) = ap suc (members_depth-outline ms)

  items_depth-outline : (ds : Items) → tree.items_depth (items_outline ds) ≡ items_depth ds
  items_depth-outline no_items = refl
  items_depth-outline (item d ds) = ap₂ max (depth-outline d) (items_depth-outline ds)

  members_depth-outline : (ms : Members) → tree.members_depth (members_outline ms) ≡ members_depth ms
  members_depth-outline no_members = refl
  members_depth-outline (member k d ms) = ap₂ max (depth-outline d) (members_depth-outline ms)

-- ---- members that stand in order go in at the end

-- One after the other.
abbrev both : Members → Members → Members
both no_members ms = ms
both (member k d found) ms = member k d (both found ms)

-- Each of the members is behind each of those found.
abbrev FollowAll : Members → Members → Type 0
FollowAll no_members ms = ⊤
FollowAll (member k d found) ms = AreBehind k ms × FollowAll found ms

both-none : (found : Members) → both found no_members ≡ found
both-none no_members = refl
both-none (member k d found) = ap (member k d) (both-none found)

both-one : (found : Members) (k : List ℕ) (d : Data) (ms : Members) → both (both found (member k d no_members)) ms ≡ both found (member k d ms)
both-one no_members k d ms = refl
both-one (member l e found) k d ms = ap (member l e) (both-one found k d ms)

put_last : (found : Members) (k : List ℕ) (d : Data) (ms : Members) → FollowAll found (member k d ms) → put k d found ≡ both found (member k d no_members)
put_last no_members k d ms h = refl
put_last (member l e found) k d ms h =
    ap (λ o. match_ordering o (member k d (member l e found)) (member l d found) (member l e (put k d found))) h.0.0 ∙ ap (member l e) (put_last found k d ms h.1)

follow_more : (found : Members) (k : List ℕ) (d : Data) (ms : Members) → FollowAll found (member k d ms) → AreBehind k ms → FollowAll (both found (member k d no_members)) ms
follow_more no_members k d ms h behind = (behind, tt)
follow_more (member l e found) k d ms h behind = (h.0.1, follow_more found k d ms h.1 behind)

mutual
  of_json-outline : (d : Data) → IsPlain d → of_json (outline d) ≡ Some d
  of_json-outline null h = refl
  of_json-outline (boolean b) h = refl
  of_json-outline (number n) h = ap (option_map number) (number_again n h)
  of_json-outline (string s) h = refl
  of_json-outline (array ds) h = ap (option_map array) (of_items-outline ds h)
  of_json-outline (object ms) h = ap (option_map object) (of_members-outline no_members ms tt h)

  of_items-outline : (ds : Items) → ArePlain ds → of_items (items_outline ds) ≡ Some ds
  of_items-outline no_items h = refl
  of_items-outline (item d ds) h =
      ap (option_and_then (λ e. option_map (item e) (of_items (items_outline ds)))) (of_json-outline d h.0) ∙ ap (option_map (item d)) (of_items-outline ds h.1)

  of_members-outline : (found ms : Members) → FollowAll found ms → ArePlainMembers ms → of_members (members_outline ms) found ≡ Some (both found ms)
  of_members-outline found no_members follow h = ap (λ ms. Some ms) (sym (both-none found))
  of_members-outline found (member k d ms) follow h =
      ap (option_and_then (λ e. of_members (members_outline ms) (put k e found))) (of_json-outline d h.0)
      ∙ ap (of_members (members_outline ms)) (put_last found k d ms follow)
      ∙ of_members-outline (both found (member k d no_members)) ms (follow_more found k d ms follow h.1) h.2
      ∙ ap (λ fs. Some fs) (both-one found k d ms)

-- ---- the text

pub read_back : (d : Data) → IsPlain d → depth d ≤ max_depth → read (compact_text d) ≡ Some d
read_back d plain shallow =
    let j = outline d in
    let reported : tokens (compact_text d) ≡ json_tokens j = ap tokens (sym (print-outline d)) ∙ tokens-print (json_tokens j) (ArePrintable-json_tokens j (HasNumbers-outline d plain)) in
    let low : tree.depth j ≤ max_depth = subst (λ n. n ≤ max_depth) (sym (depth-outline d)) shallow in
    ap (λ r. option_and_then of_json (option_and_then (λ p. if_last p.0 p.1) r)) (ap (value max_depth) (reported ∙ sym (append-nil (json_tokens j))) ∙ value-json_tokens j max_depth [] low)
    ∙ of_json-outline d plain
