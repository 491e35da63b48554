-- What a text of tokens says.
use Rattle.std.proofs.Common.{◌≡◌, ◌∙◌, List, [], ◌++◌, ap}
use Rattle.json.specs.Print.{print}
use Rattle.json.specs.Token.{Token}
use Rattle.json_base.proofs.Texts.{print-outline}
use Rattle.arrays.specs.File.{File}
use Rattle.json_base.specs.JsonTable.{tables_of}
use Rattle.json_print.specs.Prelude.{document, text, tokens_of}

-- The print of a file's tokens is its text.
pub printed : (f : File) (tokens : List Token) → tokens ≡ [] ++ tokens_of (document f.fields (tables_of f.batches)) → print tokens ≡ text f
unfolding text
printed f tokens is = ap print is ∙ print-outline (document f.fields (tables_of f.batches))
