use Rattle.std.proofs.Common.{◌∙◌, ap}
use Rattle.std.proofs.lemmas.Result.{IfOk-weaker}
use Rattle.types.specs.Kind as kind
use Rattle.arrays.specs.Shown.{shown}
use Rattle.arrays.proofs.GrowingLemmas.{bools-shown}
use Rattle.arrays.proofs.builder.bools.BoolBuilder.finish.Goals as goal

pub returns : goal.returns
returns c =
    let s = c.self.inside in
    IfOk-weaker c.from_bits.result _ _
    (λ a is. is
    ∙ bools-shown c.len-len.result s.values s.valid c.in_ok-validity.validity c.buffer_of.result c.into_buffer.result c.in_ok-bits.bits c.len-len.ensures.count c.self.invariant
    c.in_ok-validity.ensures c.buffer_of.ensures c.into_buffer.ensures c.in_ok-bits.ensures
    ∙ ap (shown kind.boolean) c.self.view_is)
    c.from_bits.ensures
