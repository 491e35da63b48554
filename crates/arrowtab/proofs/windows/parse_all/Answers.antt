use denote.Param.Send.{param_send}
use Rattle.std.proofs.Common.{arith, slice_index_or, subst, sym}
use Rattle.reports.specs.Parsed.{IsParsed}
use Rattle.reports.proofs.ParseLemmas.{each_zip, zip_map}
use Rattle.arrowtab.proofs.SendingLemmas.{parsed-send}
use Rattle.arrowtab.proofs.windows.parse_all.Goals as goal

pub map_vec-requires-send-X : goal.map_vec-requires-send-X
map_vec-requires-send-X g c κs within = record { owned = parsed-send.owned; leaving = (param_send 2 _ parsed-send).leaving }

pub returns : goal.returns
returns g c =
    let texts = c.args.texts.items in
    let parsed = c.in_ok-parsed.parsed.items in
    zip_map (λ t. t.items) IsParsed texts parsed
    (each_zip (λ t p. IsParsed t.items p) texts parsed (omega (arith, c.in_ok-parsed.ensures.len, c.in_ok-parsed.parsed.ok.0, c.args.texts.ok.0)) (λ i d e h.
    let job = (c.in_ok-parsed.ensures.each i e h).1 in
    subst (λ t. IsParsed t.items (slice_index_or parsed i e)) (sym (job.job_is d)) job.call.met))
