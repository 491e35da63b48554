use Rattle.std.proofs.lemmas.Option.{IfSome_then}
use Rattle.serde_json.specs.Data.{number}
use Rattle.json_scan.proofs.value.pass_word.Goals as goal

pub returns-in-None-clause-reads : goal.returns-in-None-clause-reads
returns-in-None-clause-reads c = IfSome_then c.pass_number.result c.pass_number.ensures.reads (λ end n. (number n.0, n.1))
