use Rattle.std.proofs.Common.{◌∙◌, ◌++◌, List, ap, inl, inr, length, sym, true≢false}
use Rattle.arrays.specs.Prelude.{Item, Seen, is_full, is_past, items_of_texts, text_bytes}
use Rattle.pool.proofs.FrontLemmas.{front_fits}
use Rattle.pool.proofs.text_pool.TextPool.to_array_after.Goals as goal

pub unreachable-requires : goal.unreachable-requires
unreachable-requires c =
    let words = c.args.words.now in
    let begun = c.in_ok-column.field-0 in
    let items : List Item = items_of_texts c.texts.result in
    let fits = ap (λ w. is_full w (text_bytes (begun.items ++ items))) c.in_ok-column.ensures.width
    ∙ ap (λ (xs : List Item). is_past (text_bytes (xs ++ items))) c.in_ok-column.ensures.empty
    ∙ ap (λ (xs : List Item). is_past (text_bytes xs)) (c.texts.ensures.items ∙ ap (λ (s : Seen). s.items) c.view-front.ensures.value)
    ∙ front_fits c.args.self.now words.items (length words.items) (ap (λ (s : Seen). s.items) c.requires) c.column.ensures.fits in
    elim c.in-Err-OffsetsFull.ensures.err [ inl h ↦ true≢false (sym h.1 ∙ fits) | inr h ↦ let no = h in cc ]
