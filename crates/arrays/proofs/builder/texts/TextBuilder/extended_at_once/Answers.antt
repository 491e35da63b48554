use Rattle.std.proofs.Common.{◌∙◌, ◌++◌, ◌+◌, ◌<◌, ◌≡◌, ap, arith, false, inl, length, length-append, refl, rules, sym}
use Rattle.types.specs.OffsetSize.{is_full}
use Rattle.arrays.specs.Column.{TextColumn}
use Rattle.arrays.proofs.CutLemmas.{length-texts}
use Rattle.arrays.proofs.ExtendedLemmas.{bytes_after, bytes_in, texts_after, total_after}
use Rattle.arrays.proofs.LaidLemmas.{bytes-counted}
use Rattle.arrays.proofs.builder.texts.TextBuilder.extended_at_once.Goals as goal

pub returns-then-is_full-clause-err : goal.returns-then-is_full-clause-err
returns-then-is_full-clause-err c =
    let s = c.self.inside in
    let t = c.args.texts.now in
    let view_is = ap (λ (q : TextColumn). q.items) c.self.view_is in
    let before : c.len.result ≡ length s.bytes.items = search (rules, c.len.ensures) in
    inl (
      refl,
      ap (is_full c.args.self.width) (bytes_after s.slots.lengths s.bytes.items t c.args.self.items c.requires.valid view_is c.self.invariant.texts)
          ∙ ap (λ n. is_full c.args.self.width (length s.bytes.items + n)) (sym (ap length c.all-more.ensures))
          ∙ ap (λ w. is_full w (length s.bytes.items + length c.all-more.result.now)) (sym (c.width.ensures ∙ ap (λ (q : TextColumn). q.width) c.self.view_is))
          ∙ ap (λ n. is_full c.width.result (n + length c.all-more.result.now)) (sym before)
          ∙ sym c.if-is_full.ensures,
    )

pub push_all-requires-clause-room : goal.push_all-requires-clause-room
push_all-requires-clause-room c =
    let s = c.self.inside in
    omega (arith, c.requires.room, length-texts s.slots.lengths s.bytes.items c.args.self.items (ap (λ (q : TextColumn). q.items) c.self.view_is))

pub push_all-requires-clause-fits : goal.push_all-requires-clause-fits
push_all-requires-clause-fits c =
    let s = c.self.inside in
    let t = c.args.texts.now in
    let more = bytes_in t.offsets t.bytes.now t.slots in
    let before : c.len.result ≡ length s.bytes.items = search (rules, c.len.ensures) in
    let all = total_after s.slots.lengths s.bytes.items t c.args.self.items c.requires.valid (ap (λ (q : TextColumn). q.items) c.self.view_is) c.self.invariant.texts in
    let long = ap length (c.in_ok-extend_from_slice.ensures.items ∙ ap (λ xs. s.bytes.items ++ xs) c.all-more.ensures) ∙ length-append s.bytes.items more in
    let room : length c.extend_from_slice.new.self.items < 9223372036854775808 = search rules in
    let fits : is_full s.slots.width (length c.extend_from_slice.new.self.items) ≡ false =
    ap (is_full s.slots.width) (long ∙ ap (λ n. n + length more) (sym before) ∙ ap (λ n. c.len.result + n) (sym (ap length c.all-more.ensures)))
    ∙ ap (λ w. is_full w (c.len.result + length c.all-more.result.now)) (sym c.width.ensures)
    ∙ sym c.if-is_full.ensures in
    omega (arith, all, long, bytes-counted s.slots.width (length c.extend_from_slice.new.self.items) fits room)

pub invariant_of-result : goal.invariant_of-result
invariant_of-result c =
    let s = c.self.inside in
    let t = c.args.texts.now in
    let more = bytes_in t.offsets t.bytes.now t.slots in
    let before : c.len.result ≡ length s.bytes.items = search (rules, c.len.ensures) in
    let bytes = c.in_ok-extend_from_slice.ensures.items ∙ ap (λ xs. s.bytes.items ++ xs) c.all-more.ensures in record {
      texts = (texts_after s.slots.lengths c.push_all.new.self.lengths s.bytes.items c.extend_from_slice.new.self.items t c.args.self.items c.requires.valid
          (ap (λ (q : TextColumn). q.items) c.self.view_is) c.self.invariant.texts bytes c.in_ok-push_all.ensures.ok).texts_still;
      room = ap (λ w. is_full w (length c.extend_from_slice.new.self.items)) (c.in_ok-push_all.ensures.width ∙ sym c.width.ensures)
          ∙ ap (is_full c.width.result)
          (ap length bytes ∙ length-append s.bytes.items more ∙ ap (λ n. n + length more) (sym before) ∙ ap (λ n. c.len.result + n) (sym (ap length c.all-more.ensures)))
          ∙ sym c.if-is_full.ensures;
    }

pub returns-clause-items : goal.returns-clause-items
returns-clause-items c =
    let s = c.self.inside in
    (texts_after s.slots.lengths c.push_all.new.self.lengths s.bytes.items c.extend_from_slice.new.self.items c.args.texts.now c.args.self.items c.requires.valid
    (ap (λ (q : TextColumn). q.items) c.self.view_is) c.self.invariant.texts (c.in_ok-extend_from_slice.ensures.items ∙ ap (λ xs. s.bytes.items ++ xs) c.all-more.ensures) c.in_ok-push_all.ensures.ok).grown
