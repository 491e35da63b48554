use Rattle.std.proofs.Common.{◌≡◌, ◌∙◌, Some, None, Ok, inl, inr, ap, refl, sym}
use Rattle.query.specs.Prelude.{fits, place_in, query_shape, renamed_query, written}
use Rattle.query.proofs.ResolvedLemmas.{fault-written, fits-placed, handed_on, IsOk-query, resolved-deep, resolved-shallow}
use Rattle.query.proofs.positions.resolve.Goals as goal

pub returns-then-is_too_deep-clause-err : goal.returns-then-is_too_deep-clause-err
returns-then-is_too_deep-clause-err c = inl (resolved-deep c.args.schema.now (written c.args.text.now) (sym c.is_too_deep.ensures ∙ c.if-is_too_deep.true))

pub returns-in_err-check_parts-clause-err : goal.returns-in_err-check_parts-clause-err
returns-in_err-check_parts-clause-err c =
    let fields = c.args.schema.now in
    let text = c.args.text.now in
    let fault = c.in_err-check_parts.field-0.0 in
    let reported = fault-written fields text c.deref.result.now c.deref-2.result.now (Some fault) c.in_err-check_parts.ensures c.deref.ensures.0 c.deref-2.ensures.value in
    handed_on c.from_residual.result fault _ c.from_residual.ensures.1
    (inl (resolved-shallow fields (written text) (Some fault) (sym c.is_too_deep.ensures ∙ c.if-is_too_deep.false) reported))

pub returns-in_err-placed_query-clause-err : goal.returns-in_err-placed_query-clause-err
returns-in_err-placed_query-clause-err c =
    let fields = c.args.schema.now in
    let text = c.args.text.now in
    let reported = fault-written fields text c.deref.result.now c.deref-2.result.now None c.in_ok-check_parts.ensures c.deref.ensures.0 c.deref-2.ensures.value in
    let is = resolved-shallow fields (written text) None (sym c.is_too_deep.ensures ∙ c.if-is_too_deep.false) reported in
    handed_on c.from_residual-in_err-placed_query.result _ _ c.from_residual-in_err-placed_query.ensures.1
    (inr (refl, IsOk-query _ _ is))

pub returns-clause-ok : goal.returns-clause-ok
returns-clause-ok c =
    let fields = c.args.schema.now in
    let text = c.args.text.now in
    let reported = fault-written fields text c.deref.result.now c.deref-2.result.now None c.in_ok-check_parts.ensures c.deref.ensures.0 c.deref-2.ensures.value in
    let placed : query_shape c.in_ok-placed_query.field-0 ≡ renamed_query (place_in fields) (written text) =
    c.in_ok-placed_query.ensures ∙ ap (λ fs. renamed_query (place_in fs) (written text)) c.fields.ensures.value in
    resolved-shallow fields (written text) None (sym c.is_too_deep.ensures ∙ c.if-is_too_deep.false) reported ∙ ap Ok (sym placed)

pub returns-clause-fits : goal.returns-clause-fits
returns-clause-fits c =
    let fields = c.args.schema.now in
    let text = c.args.text.now in
    let reported = fault-written fields text c.deref.result.now c.deref-2.result.now None c.in_ok-check_parts.ensures c.deref.ensures.0 c.deref-2.ensures.value in
    let placed : query_shape c.in_ok-placed_query.field-0 ≡ renamed_query (place_in fields) (written text) =
    c.in_ok-placed_query.ensures ∙ ap (λ fs. renamed_query (place_in fs) (written text)) c.fields.ensures.value in
    ap (fits fields) placed ∙ fits-placed fields (written text) (sym c.is_too_deep.ensures ∙ c.if-is_too_deep.false) reported
