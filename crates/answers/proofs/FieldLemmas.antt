-- Fields of the same kinds give an expression the same value.
use Rattle.std.proofs.Common.{◌≡◌, ◌∙◌, ℕ, List, ◌∷◌, map, Option, Some, None, Ok, ap, sym, refl}
use Rattle.std.specs.Prelude.{option_and_then, option_map, slice_get, Result, Err}
use Rattle.std.proofs.lemmas.Option.{slice_get-map}
use Rattle.arrays.specs.Prelude.{FieldShape, Kind, Row, kind_of_field}
use Rattle.query.specs.Prelude.{Tree, Trees, checked, sort_at, sort_of_field, sort_of_kind}
use Rattle.query.specs.Tree as tree
use Rattle.query.specs.declared.fault.QueryFault.{QueryFault}
use Rattle.query.specs.declared.fault.QueryFault.TheVariants.{NoColumn}
use Rattle.query.specs.declared.sort.Sort.{Sort}
use Rattle.evaluate.specs.Value.{bounded_in, of_operands, value, values}

by_kind : Option Kind → Result Sort QueryFault
by_kind (Some k) = Ok (sort_of_kind k)
by_kind None = Err NoColumn

sort_by_kind : (o : Option FieldShape) → sort_of_field o ≡ by_kind (option_map kind_of_field o)
unfolding by_kind
sort_by_kind (Some f) = refl
sort_by_kind None = refl

pub same_sorts : (fs gs : List FieldShape) → map kind_of_field fs ≡ map kind_of_field gs → (place : ℕ) → sort_at fs place ≡ sort_at gs place
same_sorts fs gs same place =
    sort_by_kind (slice_get fs place) ∙ ap by_kind (sym (slice_get-map kind_of_field fs place) ∙ ap (λ l. slice_get l place) same ∙ slice_get-map kind_of_field gs place)
    ∙ sym (sort_by_kind (slice_get gs place))

module _ (fs gs : List FieldShape) (same : sort_at fs ≡ sort_at gs) (row : Row) where
  mutual
    pub same_value : (t : Tree ℕ) → value fs row t ≡ value gs row t
    same_value (tree.column c) = refl
    same_value (tree.int z) = refl
    same_value (tree.text s) = refl
    same_value (tree.op o ts) =
        ap (λ f. option_and_then (λ xs. bounded_in (checked f (tree.op o ts)) (of_operands o xs)) (values fs row ts)) same
        ∙ ap (option_and_then (λ xs. bounded_in (checked (sort_at gs) (tree.op o ts)) (of_operands o xs))) (same_values ts)

    pub same_values : (ts : Trees ℕ) → values fs row ts ≡ values gs row ts
    same_values tree.none = refl
    same_values (tree.one t ts) =
        ap (λ v. option_and_then (λ x. option_and_then (λ xs. Some (x ∷ xs)) (values fs row ts)) v) (same_value t)
        ∙ ap (λ v. option_and_then (λ x. option_and_then (λ xs. Some (x ∷ xs)) v) (value gs row t)) (same_values ts)
