use Rattle.std.proofs.Common.{◌≡◌, ◌≢◌, None, rules}
use Rattle.json_read.specs.Prelude.{member_name}
use Rattle.json_read.specs.Members as member
use Rattle.json_file.proofs.DocumentLemmas.{batches_taken, dictionaries_taken, other_passed, schema_taken}
use Rattle.json_file.proofs.document.DocumentPartsMemberVisitor.visit.Goals as goal

pub returns-then-is_none-clause-ok : goal.returns-then-is_none-clause-ok
returns-then-is_none-clause-ok c =
    let read = c.in_ok-batches.ensures.ok in
    let place = c.in_ok-place in
    let same : c.args.name.now ≡ member_name member.Batches = search rules in
    (read.0, read.1, λ first ms h. batches_taken c.args.depth c.args.text.now c.args.name.now read.0 ms c.args.self.now h place.place c.in_ok-batches.batches.value same (place.ensures.stands read.0 read.1) read.2)

pub returns-then-eq-2-clause-ok : goal.returns-then-eq-2-clause-ok
returns-then-eq-2-clause-ok c =
    let read = c.in_ok-place-2.ensures.stands in
    let same : c.args.name.now ≡ member_name member.Schema = search rules in
    (read.0, read.1, λ first ms h. schema_taken c.args.depth c.args.text.now c.args.name.now read.0 ms c.args.self.now h c.in_ok-place-2.place same read.2)

pub returns-then-eq-3-clause-ok : goal.returns-then-eq-3-clause-ok
returns-then-eq-3-clause-ok c =
    let read = c.in_ok-place-2.ensures.stands in
    let same : c.args.name.now ≡ member_name member.Dictionaries = search rules in
    (read.0, read.1, λ first ms h. dictionaries_taken c.args.depth c.args.text.now c.args.name.now read.0 ms c.args.self.now h c.in_ok-place-2.place same read.2)

pub returns-then-eq-4-clause-ok : goal.returns-then-eq-4-clause-ok
returns-then-eq-4-clause-ok c =
    let read = c.in_ok-place-2.ensures.stands in
    let same : c.args.name.now ≡ member_name member.Batches = search rules in
    (read.0, read.1, λ first ms h. batches_taken c.args.depth c.args.text.now c.args.name.now read.0 ms c.args.self.now h c.in_ok-place-2.place None same read.2 tt)

pub returns-else-eq-4-clause-ok : goal.returns-else-eq-4-clause-ok
returns-else-eq-4-clause-ok c =
    let read = c.in_ok-place-2.ensures.stands in
    let no_schema : c.args.name.now ≢ member_name member.Schema = search rules in
    let no_dictionaries : c.args.name.now ≢ member_name member.Dictionaries = search rules in
    let no_batches : c.args.name.now ≢ member_name member.Batches = search rules in
    (read.0, read.1, λ first ms h. other_passed c.args.depth c.args.text.now c.args.name.now read.0 ms c.args.self.now h no_schema no_dictionaries no_batches)
