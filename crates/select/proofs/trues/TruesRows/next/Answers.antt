use Rattle.std.proofs.Common.{◌∙◌, arith, sym, w64}
use Rattle.std.specs.Int.{trailing_zeros}
use Rattle.select.proofs.OnesLemmas.{first_one, one_reported}
use Rattle.select.proofs.trues.TruesRows.next.Goals as goal

pub returns : goal.returns
returns c =
    let p = c.find_word.new.place in
    sym c.find_word.ensures.same ∙ one_reported c.args.self.now.bits p.at p.ones (trailing_zeros w64 p.ones) (first_one p.ones c.find_word.ensures.some (omega arith))
