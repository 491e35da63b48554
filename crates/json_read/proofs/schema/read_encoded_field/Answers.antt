use Rattle.std.proofs.Common.{◌∙◌, Some, refl, sym, ap}
use Rattle.json_read.proofs.JsonFields.{top_read}
use Rattle.json_read.proofs.schema.read_encoded_field.Goals as goal

pub returns-in-Ok-clause-ok : goal.returns-in-Ok-clause-ok
returns-in-Ok-clause-ok c =
    top_read _ _ refl record {
      name = c.in_ok-name.ensures.ok ∙ ap Some (sym c.in-Ok.ensures.ok);
      nullable = c.in_ok-nullable.ensures.ok;
      ty = c.in_ok-check_values.ensures.ok;
      childless = sym c.if-not-is_childless.ensures;
      encoded_as = c.requires.encoded_as;
      encoding = c.requires.encoding;
    }
