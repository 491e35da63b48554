use Rattle.std.proofs.Common.{append_assoc}
use Rattle.std.proofs.lemmas.Result.{IfOk-equal}
use Rattle.json_print.proofs.schema.write_dictionary.Goals as goal

pub returns : goal.returns
returns c =
    IfOk-equal c.end_object.result _ _ _ c.end_object.ensures
    (simp (c.in_ok-boolean.ensures, c.in_ok-key-3.ensures, c.in_ok-write_int_type.ensures, c.in_ok-key-2.ensures, c.in_ok-number.ensures, c.in_ok-key.ensures, c.in_ok-begin_object.ensures, append_assoc))
