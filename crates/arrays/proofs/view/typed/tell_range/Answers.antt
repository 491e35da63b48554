use Rattle.types.proofs.RangeLemmas.{number_at-of_type}
use Rattle.arrays.proofs.view.typed.tell_range.Goals as goal

pub returns : goal.returns
returns c = λ j. number_at-of_type c.args.ty c.args.numbers.now j (λ i. (c.type_inv.numbers i).fits)
