use Rattle.std.proofs.Common.{◌≡◌, ◌≢◌, ◌∙◌, Some, sym, ap, to_z, of_z, rules}
use Rattle.std.specs.Int.{w128}
use Rattle.std.specs.Prelude.{FitsSigned}
use Rattle.std.proofs.lemmas.Int.{to_z-of_z}
use Rattle.json_read.specs.Prelude.{member_name}
use Rattle.json_read.specs.Members as member
use Rattle.json_scan.proofs.Values.{if_ok_then}
use Rattle.json_file.proofs.DictionaryLemmas.{id_taken, words_taken, entry_passed}
use Rattle.json_file.proofs.dictionary.EntryPartsMemberVisitor.visit.Goals as goal

pub returns-then-eq-clause-ok : goal.returns-then-eq-clause-ok
returns-then-eq-clause-ok c =
    let read = c.in-Some.ensures.reads in
    let id = c.in-Some.id.value in
    let fits : FitsSigned w128 id = search rules in
    let same : c.args.name.now ≡ member_name member.Id = search rules in
    (read.0, read.2 c.args.depth, λ first ms h. id_taken c.args.name.now read.0 ms c.args.self.now h (to_z w128 (of_z w128 id)) same (read.1 ∙ ap Some (sym (to_z-of_z w128 id fits))))

pub returns-then-eq-2-clause-ok : goal.returns-then-eq-2-clause-ok
returns-then-eq-2-clause-ok c =
    let read = c.in_ok-words.ensures.ok in
    let same : c.args.name.now ≡ member_name member.Texts = search rules in
    (read.0, read.1, λ first ms h. words_taken c.args.name.now read.0 ms c.args.self.now h c.in_ok-words.words.value same read.2)

pub returns-clause-ok : goal.returns-clause-ok
returns-clause-ok c =
    let no_id : c.args.name.now ≢ member_name member.Id = search rules in
    let no_words : c.args.name.now ≢ member_name member.Texts = search rules in
    if_ok_then c.pass_over.result c.pass_over.ensures.ok (λ end read. (read.0, read.1, λ first ms h. entry_passed c.args.name.now read.0 ms c.args.self.now h no_id no_words))
