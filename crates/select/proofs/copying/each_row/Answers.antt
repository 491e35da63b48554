use Rattle.std.proofs.Common.{◌∙◌, ap, refl}
use Rattle.arrays.specs.Lengths.{is_too_big}
use Rattle.select.specs.Picked.{first_rows, picked}
use Rattle.select.proofs.ListLemmas.{each-within, picked-each}
use Rattle.select.proofs.SizeLemmas.{each-chosen, memory-alone}
use Rattle.select.proofs.copying.each_row.Goals as goal

pub gather-requires : goal.gather-requires
gather-requires c =
    let n = c.new.result.count in
    each-within c.args.view.now.items (first_rows n) n refl (c.new.ensures ∙ c.slots.ensures.count)

pub returns-clause-ok : goal.returns-clause-ok
returns-clause-ok c =
    let n = c.new.result.count in
    each-chosen c.gather.result c.args.view.now (first_rows n) n refl (c.new.ensures ∙ c.slots.ensures.count) c.gather.ensures.ok c.gather.ensures.codes

pub returns-clause-err : goal.returns-clause-err
returns-clause-err c =
    let s = c.args.view.now in
    let n = c.new.result.count in
    memory-alone c.gather.result (is_too_big s.kind (picked s.items (first_rows n)))
    (ap (is_too_big s.kind) (picked-each s.items (first_rows n) n refl (c.new.ensures ∙ c.slots.ensures.count)) ∙ c.tell_items.ensures.few)
    c.gather.ensures.err
