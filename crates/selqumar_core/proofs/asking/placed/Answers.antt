use Rattle.std.proofs.Common.{◌≡◌, ◌⊎◌, ◌∙◌, Err, ap, subst, sym}
use Rattle.std.specs.Prelude.{IsOk}
use Rattle.arrow_json.specs.Prelude.{ReadsQueryText}
use Rattle.shared.specs.Prelude.{NoMemory, fits, named, query_shape, resolved, rows}
use Rattle.selqumar_core.proofs.AskedLemmas.{refused_by_fields}
use Rattle.selqumar_core.proofs.asking.placed.Goals as goal

pub returns-in-Ok-resolve-clause-ok : goal.returns-in-Ok-resolve-clause-ok
returns-in-Ok-resolve-clause-ok c = record {
  query = named c.in-Ok.query;
  reads = subst (λ b. ReadsQueryText b (named c.in-Ok.query)) c.as_bytes.ensures.value c.in-Ok.ensures.ok;
  resolves = ap (λ fields. resolved fields (named c.in-Ok.query)) (sym c.schema.ensures) ∙ c.in-Ok-resolve.ensures.ok;
}

pub returns-in-Ok-resolve-clause-fits : goal.returns-in-Ok-resolve-clause-fits
returns-in-Ok-resolve-clause-fits c = ap (λ fields. fits fields (query_shape c.in-Ok-resolve.placed)) (sym c.schema.ensures) ∙ c.in-Ok-resolve.ensures.fits

pub returns-in-Ok : goal.returns-in-Ok
returns-in-Ok c =
    let query = named c.in-Ok.query in
    let e = c.in-Err-resolve.fault in
    record {
      ok = tt;
      fits = tt;
      err =
          refused_by_fields c.args.text.now c.args.version.now.fields (rows c.args.version.now.history) query e
          (subst (λ b. ReadsQueryText b query) c.as_bytes.ensures.value c.in-Ok.ensures.ok)
          (subst (λ fields. (resolved fields query ≡ Err e) ⊎ ((e ≡ NoMemory) × IsOk (resolved fields query))) c.schema.ensures c.in-Err-resolve.ensures.err) c.in_default.not-NoMemory;
    }
