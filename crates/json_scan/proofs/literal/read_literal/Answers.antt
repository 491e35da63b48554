use Rattle.std.proofs.Common.{◌∙◌, true, false, drop, sym, refl}
use Rattle.json.specs.Token.{boolean, null}
use Rattle.serde_json.specs.Data as data_of
use Rattle.json_scan.proofs.Lexemes.{true_lexed, false_lexed, null_lexed}
use Rattle.json_scan.proofs.Values.{token_spells}
use Rattle.json_scan.proofs.literal.read_literal.Goals as goal

pub returns-in_ok-name_end-in-116-clause-reads : goal.returns-in_ok-name_end-in-116-clause-reads
returns-in_ok-name_end-in-116-clause-reads c =
    let d = c.args.text.now in
    let r = c.in_ok-name_end-in-116 in
    token_spells (drop c.args.at d) (drop r.field-0 d) (boolean true) (data_of.boolean true) (sym c.after_space-start.ensures.same ∙ true_lexed (drop c.after_space-start.result d) (drop r.field-0 d) r.ensures.word r.ensures.ends) refl

pub returns-in_ok-name_end-in-102-clause-reads : goal.returns-in_ok-name_end-in-102-clause-reads
returns-in_ok-name_end-in-102-clause-reads c =
    let d = c.args.text.now in
    let r = c.in_ok-name_end-in-102 in
    token_spells (drop c.args.at d) (drop r.field-0 d) (boolean false) (data_of.boolean false) (sym c.after_space-start.ensures.same ∙ false_lexed (drop c.after_space-start.result d) (drop r.field-0 d) r.ensures.word r.ensures.ends) refl

pub returns-in_ok-name_end-in-110-clause-reads : goal.returns-in_ok-name_end-in-110-clause-reads
returns-in_ok-name_end-in-110-clause-reads c =
    let d = c.args.text.now in
    let r = c.in_ok-name_end-in-110 in
    token_spells (drop c.args.at d) (drop r.field-0 d) null data_of.null (sym c.after_space-start.ensures.same ∙ null_lexed (drop c.after_space-start.result d) (drop r.field-0 d) r.ensures.word r.ensures.ends) refl
