use Rattle.std.proofs.Common.{◌≡◌, ◌∙◌, arith, length, sym}
use Rattle.std.specs.List.{zip}
use Rattle.std.proofs.lemmas.Slice.Zip.{length-zip}
use Rattle.table.proofs.CauseLemmas.{difference-many, difference-same, difference-some, found-fields}
use Rattle.table.proofs.cause.schema_difference.Goals as goal

pub returns-in-Some : goal.returns-in-Some
returns-in-Some c =
    let stored = c.args.stored.now in
    let handed = c.args.handed.now in
    let found = found-fields stored handed c.fields.result.now c.fields-2.result.now c.first_difference.result c.fields.ensures.value c.fields-2.ensures.value c.first_difference.ensures in
    sym (difference-some stored handed c.in-Some.column (found ∙ c.in-Some.is))

pub returns-then-many-others : goal.returns-then-many-others
returns-then-many-others c =
    let stored = c.args.stored.now in
    let handed = c.args.handed.now in
    let found = found-fields stored handed c.fields.result.now c.fields-2.result.now c.first_difference.result c.fields.ensures.value c.fields-2.ensures.value c.first_difference.ensures in
    sym (difference-same stored handed (found ∙ c.in_default.is) (omega (arith, c.len-many.ensures, c.len-others.ensures, c.if-many-others.true)))

pub returns-else-many-others : goal.returns-else-many-others
returns-else-many-others c =
    let stored = c.args.stored.now in
    let handed = c.args.handed.now in
    let found = found-fields stored handed c.fields.result.now c.fields-2.result.now c.first_difference.result c.fields.ensures.value c.fields-2.ensures.value c.first_difference.ensures in
    let size : length (zip stored handed) ≡ c.min.result = omega (arith, length-zip stored handed, c.min.ensures, c.len-many.ensures, c.len-others.ensures) in
    sym (difference-many stored handed c.min.result (found ∙ c.in_default.is)
    (λ same. omega (arith, same, c.if-many-others.false, c.len-many.ensures, c.len-others.ensures)) size)
