use Rattle.std.proofs.Common.{◌≡◌, ◌∙◌, true, Some, None, cond, option_and_then, ap, rules}
use Rattle.arrays.specs.Prelude.{int64, is_of_type}
use Rattle.json_read.specs.Prelude.{fitting}
use Rattle.json_file.proofs.dictionary.read_id.Goals as goal

pub returns-then-holds-clause-reads : goal.returns-then-holds-clause-reads
returns-then-holds-clause-reads c =
    let read = c.in_ok-id.ensures.reads in
    let id = c.in_ok-id.id.value in
    let fits : is_of_type int64 id ≡ true = search rules in
    (read.0, ap (option_and_then (fitting int64)) read.1 ∙ ap (λ b. cond b (Some id) None) fits, read.2)
