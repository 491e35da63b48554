use Rattle.std.proofs.Common.{◌≡◌, ◌∙◌, ◌+◌, ◌-◌, ◌*◌, ◌/◌, ◌<◌, ◌&&◌, ℕ, ap, arith, lt-ltb}
use Rattle.std.proofs.lemmas.Result.{on_ok_weaker}
use Rattle.colbits.specs.Bit.{bit_in}
use Rattle.colbits.proofs.BuildingLemmas.{length-places, places-grown}
use Rattle.colbits.proofs.bitmap.builder.BitmapBuilder.add_places.Goals as goal

pub push_word-requires-clause-room : goal.push_word-requires-clause-room
push_word-requires-clause-room g c =
    let f = g.P.Places.at c.args.places.now in
    omega (arith, length-places f (64 * c.loop-w.w) c.args.self.now c.loop-w.self c.loop-w.invariant, c.requires.room, c.len-len.ensures)

pub loop-w-preserved : goal.loop-w-preserved
loop-w-preserved g c =
    let f = g.P.Places.at c.args.places.now in
    let n = 64 * c.loop-w.w in
    places-grown f c.args.self.now c.loop-w.self c.push_word.new.self n 64 (64 * (c.loop-w.w + 1)) c.word.result c.loop-w.invariant c.in_ok-push_word.ensures.ok c.word.ensures (omega arith)

pub push_word-requires-2-clause-room : goal.push_word-requires-2-clause-room
push_word-requires-2-clause-room g c =
    let f = g.P.Places.at c.args.places.now in
    omega (arith, length-places f (64 * c.loop-w.w) c.args.self.now c.loop-w.self c.loop-w.invariant, c.requires.room, c.len-len.ensures)

pub returns-clause-ok : goal.returns-clause-ok
returns-clause-ok g c =
    let f = g.P.Places.at c.args.places.now in
    let n = 64 * c.loop-w.w in
    let rest = c.len-len.result - 64 * (c.len-len.result / 64) in
    let end : 64 * (c.len-len.result / 64) ≡ n = omega arith in
    let reported : (j : ℕ) → j < rest → bit_in c.last_word.result j ≡ f (n + j) =
    λ j below. c.last_word.ensures j ∙ ap (λ b. b && f (64 * (c.len-len.result / 64) + j)) (lt-ltb j rest below) ∙ ap (λ m. f (m + j)) end in
    on_ok_weaker c.push_word-2.result
    (λ grows. places-grown f c.args.self.now c.loop-w.self c.push_word-2.new.self n rest _ c.last_word.result c.loop-w.invariant grows reported (omega (arith, c.len-len.ensures)))
    c.push_word-2.ensures.ok
