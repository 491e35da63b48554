-- Nodes that name fields.
use Rattle.std.proofs.Common.{◌≡◌, ◌∙◌, ◌<◌, ◌≤◌, ◌+◌, ◌++◌, ℕ, List, [], ◌∷◌, Option, Some, None, Bool, true, false, ap, append-nil, append_assoc, arith, length, nat_lt, option_map, position, refl, slice_get, subst, sym, take}
use Rattle.std.proofs.lemmas.Bool.Decides.{nat_tests}
use Rattle.std.proofs.lemmas.List.{length-map, take_all, take_more}
use Rattle.std.proofs.lemmas.Map.Keys.{any_passes_from_place}
use Rattle.std.proofs.lemmas.Option.{get_or_from_slice_get, slice_get_within}
use Rattle.std.specs.Option.{option_or}
use Rattle.arrays.proofs.BatchLemmas.{among-missing}
use Rattle.arrays.specs.Prelude.{DictInList, Field, FieldShape, Kind, OffsetWidth, Shape, TooDeep, depth, field, field_of, fields_of, holds_dict, is_deep, is_nullable, kind_of_field, name_of, schema_fault}
use Rattle.arrays.specs.Kind as kind
use Rattle.arrays.specs.Shape as shape
use Rattle.flat.specs.Prelude.{AreNamed, AreTextsNamed, Begins, IsNodeOver, IsWithoutSlots, LendsField, LendsFields, most_levels}
use Rattle.flat.specs.declared.node.Node.{Node}
use Rattle.flat.proofs.LentLemmas.{IsHeadOf, alone_begins, codes_begin, is_alone, lent_dict, lists_begin}

-- a node over nothing
pub without_slots : (name : List ℕ) (nullable : Bool) (k : Kind) (n : Node) → IsNodeOver name nullable k 0 0 [] n → IsWithoutSlots n
without_slots name nullable k n is = record { long = is.long; count = is.count; validity = is.validity; first = is.first; second = is.second }

-- The node of a field, over nothing.
abbrev pub IsHeadAlone : FieldShape → Node → Type 0
IsHeadAlone f n = IsHeadOf f 0 0 [] n

head_without : (f : FieldShape) (n : Node) → IsHeadAlone f n → IsWithoutSlots n
head_without f n is = without_slots (name_of f) (is_nullable f) (kind_of_field f) n is

alone_lent : (k : Kind) (n : Node) (rest : List Node) → is_alone k ≡ true → IsWithoutSlots n → LendsField k (n ∷ rest)
alone_lent (kind.int t) n rest alone is = is
alone_lent kind.boolean n rest alone is = is
alone_lent (kind.texts w) n rest alone is = is
alone_lent (kind.lists w k) n rest alone is = cc
alone_lent kind.dict n rest alone is = cc

-- a column of one node
pub named_alone : (f : FieldShape) (n : Node) (old new : List Node) → IsHeadAlone f n → is_alone (kind_of_field f) ≡ true → new ≡ old ++ n ∷ [] → AreNamed f old new
named_alone f n old new is alone pushed = record {
  own = n ∷ [];
  is = pushed;
  begins = alone_begins f 0 0 [] n is alone;
  lends = λ rest. alone_lent (kind_of_field f) n rest alone (head_without f n is);
}

-- codes with the texts behind them
pub named_coded : (f : FieldShape) (n : Node) (old mid new : List Node) → IsHeadAlone f n → kind_of_field f ≡ kind.dict → mid ≡ old ++ n ∷ [] → AreTextsNamed mid new → AreNamed f old new
named_coded (field name nullable (shape.int t)) n old mid new is coded pushed texts = cc
named_coded (field name nullable shape.boolean) n old mid new is coded pushed texts = cc
named_coded (field name nullable (shape.texts w)) n old mid new is coded pushed texts = cc
named_coded (field name nullable (shape.lists w item)) n old mid new is coded pushed texts = cc
named_coded (field name nullable shape.dict) n old mid new is coded pushed texts = record {
  own = n ∷ texts.own ∷ [];
  is = texts.is ∙ ap (λ l. l ++ texts.own ∷ []) pushed ∙ append_assoc old (n ∷ []) (texts.own ∷ []);
  begins = codes_begin name nullable 0 0 [] n texts.own is texts.dictionary.holds;
  lends = λ rest. (lent_dict n texts.own is.holds texts.dictionary, head_without (field name nullable shape.dict) n is, texts.without);
}

-- lists with the nodes of their items behind them
pub named_listed : (f : FieldShape) (w : OffsetWidth) (item : FieldShape) (n : Node) (old mid new : List Node) → IsHeadAlone f n → f ≡ field (name_of f) (is_nullable f) (shape.lists w item)
    → mid ≡ old ++ n ∷ [] → AreNamed item mid new → AreNamed f old new
named_listed (field name nullable ty) w item n old mid new is listed pushed items =
    subst (λ (s : Shape). AreNamed (field name nullable s) old new) (sym same) (of_lists (subst (λ (s : Shape). IsHeadAlone (field name nullable s) n) same is))
  where
    same : ty ≡ shape.lists w item
    same = cc listed

    of_lists : IsHeadAlone (field name nullable (shape.lists w item)) n → AreNamed (field name nullable (shape.lists w item)) old new
    of_lists is = record {
      own = n ∷ items.own;
      is = items.is ∙ ap (λ l. l ++ items.own) pushed ∙ append_assoc old (n ∷ []) items.own;
      begins = lists_begin name nullable w item 0 0 [] n items.own is items.begins;
      lends = λ rest. (head_without (field name nullable (shape.lists w item)) n is, items.lends rest);
    }

-- one field more
lent_more : (nodes : List Node) (fs : List FieldShape) (between rest : List Node) (f : FieldShape) → LendsFields nodes fs between → Begins most_levels between f rest → LendsField (kind_of_field f) between
    → LendsFields nodes (fs ++ f ∷ []) rest
lent_more nodes [] between rest f so_far begins lends =
    (rest, subst (λ (l : List Node). Begins most_levels l f rest) so_far begins, subst (λ (l : List Node). LendsField (kind_of_field f) l) so_far lends, refl)
lent_more nodes (g ∷ gs) between rest f so_far begins lends = (so_far.0, so_far.1, so_far.2, lent_more so_far.0 gs between rest f so_far.3 begins lends)

-- ---- all of them

-- The fields so far, whatever comes behind them.
abbrev pub LentSoFar : List Node → List FieldShape → Type 0
LentSoFar nodes fs = (rest : List Node) → LendsFields (nodes ++ rest) fs rest

pub lent_none : LentSoFar [] []
lent_none = λ rest. refl

-- a field of a schema has no more levels than nodes have
first_none : {A : Type 0} (o p : Option A) → option_or o p ≡ None → o ≡ None
first_none None p none = refl
first_none (Some x) p none = cc

mapped_none : {A B : Type 0} (g : A → B) (o : Option A) → option_map g o ≡ None → o ≡ None
mapped_none g None none = refl
mapped_none g (Some x) none = cc

fails : (b : Bool) → (b ≡ true → ⊥) → b ≡ false
fails true never = absurd (never refl)
fails false never = refl

shallow : (k : Kind) → nat_lt 8 (depth k) ≡ false → depth k < most_levels
shallow k h = grind (arith, nat_tests)

pub lent_one : (fields : List FieldShape) (k : ℕ) (nodes new : List Node) (f : FieldShape) → schema_fault fields ≡ None → slice_get fields k ≡ Some f → LentSoFar nodes (take k fields) → AreNamed f nodes new
    → LentSoFar new (take (k + 1) fields)
lent_one fields k nodes new f lawful at so_far named = λ rest.
    let mid = named.own ++ rest in
    let front : new ++ rest ≡ nodes ++ mid = ap (λ l. l ++ rest) named.is ∙ append_assoc nodes named.own rest in
    let more : take (k + 1) fields ≡ take k fields ++ f ∷ [] = take_more fields k f (slice_get_within fields k f at) ∙ ap (λ g. take k fields ++ g ∷ []) (get_or_from_slice_get fields k f f at) in
    subst (λ (l : List Node). LendsFields l (take (k + 1) fields) rest) (sym front)
    (subst (λ (fs : List FieldShape). LendsFields (nodes ++ mid) fs rest) (sym more)
    (lent_more (nodes ++ mid) (take k fields) mid rest f (so_far mid) (named.begins most_levels (shallow (kind_of_field f) deep) rest) (named.lends rest)))
  where
    none : position is_deep fields ≡ None
    none = mapped_none (λ c. TooDeep c) (position is_deep fields) (first_none (option_map (λ c. TooDeep c) (position is_deep fields)) (option_map (λ c. DictInList c) (position holds_dict fields)) lawful)

    deep : nat_lt 8 (depth (kind_of_field f)) ≡ false
    deep = fails (is_deep f) (λ yes. cc (sym (any_passes_from_place is_deep fields k f at yes) ∙ among-missing is_deep fields none))

pub lent_all : (fields : List FieldShape) (n : ℕ) (nodes : List Node) → length fields ≤ n → LentSoFar nodes (take n fields) → LendsFields nodes fields []
lent_all fields n nodes few so_far =
    subst (λ (l : List Node). LendsFields l fields []) (append-nil nodes) (subst (λ (fs : List FieldShape). LendsFields (nodes ++ []) fs []) (take_all n fields few) (so_far []))

-- the fields of a whole schema
pub lent_schema : (schema : List FieldShape) (fields : List Field) (n : ℕ) (nodes : List Node) → fields_of fields ≡ schema → length fields ≤ n → LentSoFar nodes (take n (fields_of fields)) → LendsFields nodes schema []
lent_schema schema fields n nodes is few so_far =
    subst (λ (fs : List FieldShape). LendsFields nodes fs []) is (lent_all (fields_of fields) n nodes (omega (arith, few, length-map fields field_of)) so_far)
