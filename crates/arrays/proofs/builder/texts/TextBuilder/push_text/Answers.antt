use Rattle.std.proofs.Common.{◌≡◌, ◌∙◌, ◌++◌, ◌+◌, Some, ap, arith, inl, inr, length, length-append, refl, rules, sym}
use Rattle.std.proofs.lemmas.Result.{err_from_is_err_and}
use Rattle.types.specs.OffsetSize.{is_full}
use Rattle.layout.specs.Item.{text}
use Rattle.arrays.specs.Prelude.{TextColumn, cut_texts, text_bytes}
use Rattle.arrays.proofs.CutLemmas.{bytes_more, length-texts, text_more}
use Rattle.arrays.proofs.builder.texts.TextBuilder.push_text.Goals as goal

pub push-requires-clause-room : goal.push-requires-clause-room
push-requires-clause-room c =
    let s = c.self.inside in
    omega (arith, length-texts s.slots.lengths s.bytes.items c.args.self.now.items (ap (λ (q : TextColumn). q.items) c.self.view_is), c.requires.room)

pub returns-then-is_full-clause-fault : goal.returns-then-is_full-clause-fault
returns-then-is_full-clause-fault c =
    let s = c.self.inside in
    let t = c.args.text.now in
    let before : c.len-before.result ≡ length s.bytes.items = search (rules, c.len-before.ensures) in
    let more = ap (is_full c.args.self.now.width)
    (bytes_more s.slots.lengths s.bytes.items c.args.self.now.items (Some (length t)) (text t) (ap (λ (q : TextColumn). q.items) c.self.view_is) c.self.invariant.texts refl ∙ ap (λ n. n + length t) (sym before))
    ∙ ap (λ w. is_full w (c.len-before.result + length t)) (sym (c.width.ensures ∙ ap (λ (q : TextColumn). q.width) c.self.view_is)) in
    inl (refl, more ∙ sym c.if-is_full.ensures)

pub returns-in_err-extend_from_slice-clause-fault : goal.returns-in_err-extend_from_slice-clause-fault
returns-in_err-extend_from_slice-clause-fault c =
    let s = c.self.inside in
    let t = c.args.text.now in
    let before : c.len-before.result ≡ length s.bytes.items = search (rules, c.len-before.ensures) in
    let more = ap (is_full c.args.self.now.width)
    (bytes_more s.slots.lengths s.bytes.items c.args.self.now.items (Some (length t)) (text t) (ap (λ (q : TextColumn). q.items) c.self.view_is) c.self.invariant.texts refl ∙ ap (λ n. n + length t) (sym before))
    ∙ ap (λ w. is_full w (c.len-before.result + length t)) (sym (c.width.ensures ∙ ap (λ (q : TextColumn). q.width) c.self.view_is)) in
    let p = err_from_is_err_and c.from_residual.result c.from_residual.ensures.1 in
    rw (p.1, p.2) (inr (refl, more ∙ sym c.if-is_full.ensures))

pub invariant_of-self-in-Ok : goal.invariant_of-self-in-Ok
invariant_of-self-in-Ok c =
    let s = c.self.inside in
    let t = c.args.text.now in
    let before : c.len-before.result ≡ length s.bytes.items = search (rules, c.len-before.ensures) in
    let all = c.extend_from_slice.new.self.items in
    let long = ap length (c.in_ok-extend_from_slice.ensures.items ∙ ap (λ xs. s.bytes.items ++ xs) c.as_bytes.ensures.value) ∙ length-append s.bytes.items t in record {
      texts = (text_more s.slots.lengths c.push.new.self.lengths s.bytes.items c.extend_from_slice.new.self.items t c.args.self.now.items (ap (λ (q : TextColumn). q.items) c.self.view_is) c.self.invariant.texts c.utf8.text
          (c.in_ok-extend_from_slice.ensures.items ∙ ap (λ xs. s.bytes.items ++ xs) c.as_bytes.ensures.value) c.in-Ok.ensures.ok).texts_still;
      room = ap (λ w. is_full w (length all)) (c.in-Ok.ensures.width ∙ sym c.width.ensures)
          ∙ ap (is_full c.width.result) (long ∙ ap (λ n. n + length t) (sym before))
          ∙ sym c.if-is_full.ensures;
    }

pub returns-in-Ok-clause-ok : goal.returns-in-Ok-clause-ok
returns-in-Ok-clause-ok c =
    let s = c.self.inside in
    let t = c.args.text.now in
    (text_more s.slots.lengths c.push.new.self.lengths s.bytes.items c.extend_from_slice.new.self.items t c.args.self.now.items (ap (λ (q : TextColumn). q.items) c.self.view_is) c.self.invariant.texts c.utf8.text
    (c.in_ok-extend_from_slice.ensures.items ∙ ap (λ xs. s.bytes.items ++ xs) c.as_bytes.ensures.value) c.in-Ok.ensures.ok).grown

pub returns-in-Ok-clause-fits : goal.returns-in-Ok-clause-fits
returns-in-Ok-clause-fits c =
    let s = c.self.inside in
    let t = c.args.text.now in
    let before : c.len-before.result ≡ length s.bytes.items = search (rules, c.len-before.ensures) in
    let more = ap (is_full c.args.self.now.width)
    (bytes_more s.slots.lengths s.bytes.items c.args.self.now.items (Some (length t)) (text t) (ap (λ (q : TextColumn). q.items) c.self.view_is) c.self.invariant.texts refl ∙ ap (λ n. n + length t) (sym before))
    ∙ ap (λ w. is_full w (c.len-before.result + length t)) (sym (c.width.ensures ∙ ap (λ (q : TextColumn). q.width) c.self.view_is)) in
    ap (λ w. is_full w (text_bytes (cut_texts c.push.new.self.lengths c.extend_from_slice.new.self.items))) (c.in-Ok.ensures.width ∙ ap (λ (q : TextColumn). q.width) c.self.view_is)
    ∙ ap (λ xs. is_full c.args.self.now.width (text_bytes xs)) (text_more s.slots.lengths c.push.new.self.lengths s.bytes.items c.extend_from_slice.new.self.items t c.args.self.now.items (ap (λ (q : TextColumn). q.items) c.self.view_is) c.self.invariant.texts c.utf8.text
    (c.in_ok-extend_from_slice.ensures.items ∙ ap (λ xs. s.bytes.items ++ xs) c.as_bytes.ensures.value) c.in-Ok.ensures.ok).grown
    ∙ more
    ∙ sym c.if-is_full.ensures

pub returns-in-Err-clause-fault : goal.returns-in-Err-clause-fault
returns-in-Err-clause-fault c =
    let s = c.self.inside in
    let t = c.args.text.now in
    let before : c.len-before.result ≡ length s.bytes.items = search (rules, c.len-before.ensures) in
    let more = ap (is_full c.args.self.now.width)
    (bytes_more s.slots.lengths s.bytes.items c.args.self.now.items (Some (length t)) (text t) (ap (λ (q : TextColumn). q.items) c.self.view_is) c.self.invariant.texts refl ∙ ap (λ n. n + length t) (sym before))
    ∙ ap (λ w. is_full w (c.len-before.result + length t)) (sym (c.width.ensures ∙ ap (λ (q : TextColumn). q.width) c.self.view_is)) in
    inr (refl, more ∙ sym c.if-is_full.ensures)
