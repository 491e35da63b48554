use Rattle.std.proofs.Common.{◌≡◌, subst, rules}
use Rattle.json_read.specs.Prelude.{get_member, member_name}
use Rattle.json_read.specs.Members as member
use Rattle.json_scan.proofs.Values.{if_ok_then}
use Rattle.json_file.specs.Document.{IsFileAt, StandsAt}
use Rattle.json_file.proofs.DocumentLemmas.{document_read}
use Rattle.json_file.proofs.document.file_in.Goals as goal

pub returns-then-eq-clause-ok : goal.returns-then-eq-clause-ok
returns-then-eq-clause-ok c =
    let places = c.args.parts.places in
    let same : c.in-Some.found.places ≡ places = search rules in
    λ ms h.
    let found = subst (IsFileAt c.args.depth c.args.text.now (get_member (member_name member.Batches) ms)) c.in-Some.is h.file in
    document_read c.args.depth c.args.text.now ms places found.0 c.in-Some.found.file h.schema h.dictionaries (subst (StandsAt c.args.depth c.args.text.now found.0) same found.1) found.2

pub returns-clause-under : goal.returns-clause-under
returns-clause-under c = if_ok_then c.file_at.result c.file_at.ensures (λ file found ms h. (found _ h.batches).2.under)

pub returns-clause-ok : goal.returns-clause-ok
returns-clause-ok c =
    if_ok_then c.file_at.result c.file_at.ensures
    (λ file read ms h.
    let found = read _ h.batches in
    document_read c.args.depth c.args.text.now ms c.args.parts.places found.0 file h.schema h.dictionaries found.1 found.2)
