use Rattle.layout.proofs.FirstFaultLemmas.{data-enough, validity-enough}
use Rattle.layout.proofs.validator.content_fault.Goals as goal

pub has_negative_offset-requires-clause-enough : goal.has_negative_offset-requires-clause-enough
has_negative_offset-requires-clause-enough c = data-enough c.args.raw.now _ c.requires c.deref.ensures.value

pub decreasing_row-requires-clause-enough : goal.decreasing_row-requires-clause-enough
decreasing_row-requires-clause-enough c = data-enough c.args.raw.now _ c.requires c.deref-2.ensures.value

pub is_past_end-requires-clause-enough : goal.is_past_end-requires-clause-enough
is_past_end-requires-clause-enough c = data-enough c.args.raw.now _ c.requires c.deref-3.ensures.value

pub bad_text_row-requires-clause-enough : goal.bad_text_row-requires-clause-enough
bad_text_row-requires-clause-enough c = data-enough c.args.raw.now _ c.requires c.deref-6.ensures.value

pub bad_code_row-requires : goal.bad_code_row-requires
bad_code_row-requires c = data-enough c.args.raw.now _ c.requires c.deref-7.ensures.value

pub does_count_differ-requires : goal.does_count_differ-requires
does_count_differ-requires c = validity-enough c.args.raw.now _ c.requires c.deref-5.ensures.value
