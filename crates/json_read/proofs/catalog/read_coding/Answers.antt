use Rattle.std.proofs.Common.{Some, None, refl, rules}
use Rattle.std.specs.Int.{w128}
use Rattle.std.specs.Prelude.{FitsSigned}
use Rattle.std.proofs.lemmas.Int.{to_z-of_z}
use Rattle.json_read.specs.EncodingParts.{parts_of}
use Rattle.json_read.proofs.JsonCatalogs.{encoded_at, tells_coding}
use Rattle.json_base.proofs.JsonResults.{error_kept}
use Rattle.json_read.proofs.catalog.read_coding.Goals as goal

pub returns-in_err-words-in-Some-clause-err : goal.returns-in_err-words-in-Some-clause-err
returns-in_err-words-in-Some-clause-err c =
    let fits : FitsSigned w128 c.in-Some.encoding.id = search rules in
    let reported = rw to_z-of_z at c.in_err-words-in-Some.ensures.err in
    error_kept _ _ _ c.from_residual.ensures.1
    (tells_coding _ _ _ c.args.index (parts_of c.in-Some.encoding) _ reported (encoded_at _ _ (Some c.in-Some.encoding) c.requires.within c.in-Some.is))

pub returns-in-None-clause-ok : goal.returns-in-None-clause-ok
returns-in-None-clause-ok c = (None, encoded_at _ _ None c.requires.within c.in-None.is, tt)

pub returns-in_ok-words-in-Some-clause-ok : goal.returns-in_ok-words-in-Some-clause-ok
returns-in_ok-words-in-Some-clause-ok c =
    let fits : FitsSigned w128 c.in-Some.encoding.id = search rules in
    let dictionary = rw to_z-of_z at c.in_ok-words-in-Some.ensures.ok in
    (Some (parts_of c.in-Some.encoding), encoded_at _ _ (Some c.in-Some.encoding) c.requires.within c.in-Some.is, (refl, dictionary))
