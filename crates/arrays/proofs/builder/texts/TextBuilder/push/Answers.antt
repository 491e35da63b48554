use Rattle.std.proofs.Common.{◌∙◌, ◌++◌, ◌∷◌, [], None, add-zero, ap, arith, inr, length, refl, sym}
use Rattle.std.proofs.lemmas.Result.{err_from_is_err_and}
use Rattle.std.specs.Option.{option_copied}
use Rattle.types.specs.OffsetSize.{is_full}
use Rattle.layout.specs.Item.{null}
use Rattle.arrays.specs.Prelude.{TextColumn, cut_texts, item_of_text, text_bytes}
use Rattle.arrays.proofs.CutLemmas.{bytes_more, length-texts, null_more}
use Rattle.arrays.proofs.builder.texts.TextBuilder.push.Goals as goal

pub push-requires-clause-room : goal.push-requires-clause-room
push-requires-clause-room c =
    let s = c.self.inside in
    omega (arith, length-texts s.slots.lengths s.bytes.items c.args.self.now.items (ap (λ (q : TextColumn). q.items) c.self.view_is), c.requires.room)

pub returns-in_err-push-in-None-clause-fault : goal.returns-in_err-push-in-None-clause-fault
returns-in_err-push-in-None-clause-fault c =
    let s = c.self.inside in
    let p = err_from_is_err_and c.from_residual.result c.from_residual.ensures.1 in
    rw (p.1, p.2) (inr (
      refl,
      ap (λ x. is_full c.args.self.now.width (text_bytes (c.args.self.now.items ++ item_of_text (option_copied x) ∷ []))) c.in-None.is
          ∙ ap (is_full c.args.self.now.width) (bytes_more s.slots.lengths s.bytes.items c.args.self.now.items None null (ap (λ (q : TextColumn). q.items) c.self.view_is) c.self.invariant.texts refl ∙ add-zero (length s.bytes.items))
          ∙ ap (λ (q : TextColumn). is_full q.width (length s.bytes.items)) (sym c.self.view_is)
          ∙ c.self.invariant.room,
    ))

pub invariant_of-self-in-None : goal.invariant_of-self-in-None
invariant_of-self-in-None c =
    let s = c.self.inside in
    record {
      texts = (null_more s.slots.lengths c.push.new.self.lengths s.bytes.items c.args.self.now.items (ap (λ (q : TextColumn). q.items) c.self.view_is) c.self.invariant.texts c.in_ok-push-in-None.ensures.ok).texts_still;
      room = ap (λ w. is_full w (length s.bytes.items)) c.in_ok-push-in-None.ensures.width ∙ c.self.invariant.room;
    }

pub returns-in_ok-push-in-None-clause-ok : goal.returns-in_ok-push-in-None-clause-ok
returns-in_ok-push-in-None-clause-ok c =
    let s = c.self.inside in
    (null_more s.slots.lengths c.push.new.self.lengths s.bytes.items c.args.self.now.items (ap (λ (q : TextColumn). q.items) c.self.view_is) c.self.invariant.texts c.in_ok-push-in-None.ensures.ok).grown
    ∙ ap (λ x. c.args.self.now.items ++ item_of_text (option_copied x) ∷ []) (sym c.in-None.is)

pub returns-in_ok-push-in-None-clause-fits : goal.returns-in_ok-push-in-None-clause-fits
returns-in_ok-push-in-None-clause-fits c =
    let s = c.self.inside in
    ap (λ w. is_full w (text_bytes (cut_texts c.push.new.self.lengths s.bytes.items))) c.in_ok-push-in-None.ensures.width
    ∙ ap (λ xs. is_full s.slots.width (text_bytes xs)) (null_more s.slots.lengths c.push.new.self.lengths s.bytes.items c.args.self.now.items (ap (λ (q : TextColumn). q.items) c.self.view_is) c.self.invariant.texts c.in_ok-push-in-None.ensures.ok).grown
    ∙ ap (is_full s.slots.width) (bytes_more s.slots.lengths s.bytes.items c.args.self.now.items None null (ap (λ (q : TextColumn). q.items) c.self.view_is) c.self.invariant.texts refl ∙ add-zero (length s.bytes.items))
    ∙ c.self.invariant.room
