use Rattle.std.proofs.Common.{◌≡◌, ◌∙◌, ◌+◌, ap, arith, length, length-append, map, subst}
use Rattle.std.specs.Prelude.{All}
use Rattle.std.proofs.lemmas.List.{length-map, take_all}
use Rattle.std.proofs.lemmas.Result.{IfOk-weaker}
use Rattle.arrays.specs.Prelude.{Item, Seen, int32, shown}
use Rattle.arrays.specs.Kind as kind
use Rattle.select.specs.Joined.{IsEncoded, joined_codes, shifted}
use Rattle.select.proofs.JoinLemmas.{All-more, rest-length}
use Rattle.select.proofs.JoinedCodes.{codes-end, codes-more, length-codes-of}
use Rattle.select.proofs.joining.dicts.codes_of.Goals as goal

pub push_shifted-requires-clause-room : goal.push_shifted-requires-clause-room
push_shifted-requires-clause-room c =
    omega (arith, c.loop-view.invariant.room, rest-length (λ s. s.items) c.args.views.now c.loop-view.view-index c.view-item.result c.loop-view-test.true c.view-item.is, c.requires.slots, c.requires.short)

pub push_shifted-requires-clause-few : goal.push_shifted-requires-clause-few
push_shifted-requires-clause-few c =
    omega (arith, c.loop-view.invariant.before, rest-length (λ s. s.entries.items) c.args.views.now c.loop-view.view-index c.view-item.result c.loop-view-test.true c.view-item.is, c.requires.few)

pub loop-view-preserved : goal.loop-view-preserved
loop-view-preserved c =
    let views = c.args.views.now in
    let k = c.loop-view.view-index in
    let s = c.view-item.result in
    let before = c.loop-view.before in
    let pushed = c.push_shifted.new.builder.items in
    let codes = map (shifted before) s.codes in
    let entries : c.len-before.result ≡ length s.entries.items = c.len-before.ensures ∙ ap (λ (q : Seen). length q.items) c.entries.ensures in
    record {
      ty = c.in_ok-push_shifted.ensures.ty;
      encoded = All-more IsEncoded views k s c.loop-view-test.true c.view-item.is c.loop-view.invariant.encoded c.in_ok-push_shifted.ensures.encoded;
      codes =
          codes-more views k before (before + c.len-before.result) s c.loop-view.builder.items pushed (joined_codes 0 views) c.loop-view-test.true c.view-item.is
          c.loop-view.invariant.codes c.in_ok-push_shifted.ensures.items (ap (λ n. before + n) entries);
      before = omega (arith, c.loop-view.invariant.before, entries, rest-length (λ s. s.entries.items) views k s c.loop-view-test.true c.view-item.is);
      room =
          omega (
            arith,
            c.loop-view.invariant.room,
            rest-length (λ s. s.items) views k s c.loop-view-test.true c.view-item.is,
            ap (λ (l : Rattle.std.proofs.Common.List Item). length l) c.in_ok-push_shifted.ensures.items,
            length-append c.loop-view.builder.items codes,
            length-map s.codes (shifted before),
            length-codes-of s c.in_ok-push_shifted.ensures.encoded,
          );
    }

pub returns-clause-encoded : goal.returns-clause-encoded
returns-clause-encoded c =
    let all = subst (All IsEncoded) (take_all c.loop-view.view-index c.args.views.now c.loop-view-test.false) c.loop-view.invariant.encoded in
    IfOk-weaker c.finish.result _ _ (λ r is. all) c.finish.ensures.kind

pub returns-clause-codes : goal.returns-clause-codes
returns-clause-codes c =
    let views = c.args.views.now in
    let items = c.loop-view.builder.items in
    let end = codes-end views c.loop-view.view-index c.loop-view.before items (joined_codes 0 views) c.loop-view-test.false c.loop-view.invariant.codes in
    IfOk-weaker c.finish.result _ _
    (λ r is. is ∙ ap (λ t. shown (kind.int t) items) c.loop-view.invariant.ty ∙ ap (shown (kind.int int32)) end)
    c.finish.ensures.whole
