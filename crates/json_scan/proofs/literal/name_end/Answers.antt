use Rattle.json_scan.proofs.Lexemes.{name_stands}
use Rattle.json_scan.proofs.literal.name_end.Goals as goal

pub returns-then-ends_word-clause-word : goal.returns-then-ends_word-clause-word
returns-then-ends_word-clause-word c = name_stands c.args.text.now c.args.name.now c.args.at c.if-not-starts_with.ensures.value
