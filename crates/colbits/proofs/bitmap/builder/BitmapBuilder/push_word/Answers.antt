use Rattle.std.proofs.Common.{◌∙◌, ◌++◌, ap, arith}
use Rattle.colbits.proofs.BuildingLemmas.{few_pushed, shown_length, word_pushed}
use Rattle.colbits.proofs.bitmap.builder.BitmapBuilder.push_word.Goals as goal

pub returns-then-used-count-lt64-clause-ok : goal.returns-then-used-count-lt64-clause-ok
returns-then-used-count-lt64-clause-ok c =
    let s = c.self.inside in
    (few_pushed s.bytes.items s.last c.args.word c.joined-joined.result s.len c.args.count c.args.self.now c.self.invariant c.self.view_is c.if-used-count-lt64.true c.requires.zeros
    c.joined-joined.ensures).shows

pub overflow_add-self-2 : goal.overflow_add-self-2
overflow_add-self-2 c =
    let s = c.self.inside in
    record { fits = omega (arith, shown_length s.bytes.items s.last s.len c.args.self.now c.self.view_is, c.requires.room) }

pub invariant_of-self-2 : goal.invariant_of-self-2
invariant_of-self-2 c =
    let s = c.self.inside in
    (word_pushed s.bytes.items c.extend_from_slice.new.self.items s.last c.args.word c.joined-joined.result c.carried-self-inside.result s.len c.args.count c.args.self.now
    c.self.invariant c.self.view_is c.if-used-count-lt64.false c.requires.small c.ranges.word.fits c.requires.zeros c.joined-joined.ensures c.carried-self-inside.ensures
    (c.in_ok-extend_from_slice.ensures.items ∙ ap (λ more. s.bytes.items ++ more) c.to_le_bytes.ensures)).are

pub returns-clause-ok : goal.returns-clause-ok
returns-clause-ok c =
    let s = c.self.inside in
    (word_pushed s.bytes.items c.extend_from_slice.new.self.items s.last c.args.word c.joined-joined.result c.carried-self-inside.result s.len c.args.count c.args.self.now
    c.self.invariant c.self.view_is c.if-used-count-lt64.false c.requires.small c.ranges.word.fits c.requires.zeros c.joined-joined.ensures c.carried-self-inside.ensures
    (c.in_ok-extend_from_slice.ensures.items ∙ ap (λ more. s.bytes.items ++ more) c.to_le_bytes.ensures)).shows
