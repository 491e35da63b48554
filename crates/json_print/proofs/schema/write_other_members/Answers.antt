use Rattle.std.proofs.Common.{◌≡◌, ◌∙◌, ℕ, List, ◌++◌, Bool, codes, ap, sym, append_assoc}
use Rattle.std.proofs.lemmas.Result.{IfOk-equal}
use Rattle.arrays.specs.Prelude.{Shape, dict, shape_of}
use Rattle.json.specs.Tree.{members_tokens}
use Rattle.json_base.specs.Prelude.{member, members_outline}
use Rattle.json_print.specs.SchemaData.{dictionary_data, named_members, other_members}
use Rattle.json_print.proofs.Shapes.{shape_of-Dict}
use Rattle.json_print.proofs.schema.write_other_members.Goals as goal

dictionary_first : (id : ℕ) (name : List ℕ) (nullable : Bool) (s : Shape) → s ≡ dict → other_members id name nullable s ≡ member (codes "dictionary") (dictionary_data id) (named_members name nullable s)
dictionary_first id name nullable s is = rw is

pub returns-in_ok-write_dictionary-in-Dict : goal.returns-in_ok-write_dictionary-in-Dict
returns-in_ok-write_dictionary-in-Dict c =
    let is : shape_of c.args.field.now.ty ≡ dict = ap shape_of c.in-Dict.is ∙ shape_of-Dict in
    IfOk-equal c.write_named_members.result _ _ _ c.write_named_members.ensures
    (simp (c.in_ok-write_dictionary-in-Dict.ensures, c.in_ok-key-in-Dict.ensures, append_assoc)
    (ap (λ ms. c.args.out.now ++ members_tokens (members_outline ms)) (sym (dictionary_first c.args.id _ _ _ is))))
