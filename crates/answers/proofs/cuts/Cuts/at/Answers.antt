use Rattle.std.proofs.Common.{◌^◌, arith}
use Rattle.std.proofs.lemmas.Nat.{mul-le}
use Rattle.answers.proofs.cuts.Cuts.at.Goals as goal

pub overflow_mul-scaled : goal.overflow_mul-scaled
overflow_mul-scaled c = record { fits = omega (arith, mul-le c.args.self.rows c.from.result (2 ^ 40) 64 c.requires.few (omega (arith, c.from.ensures, c.requires.most))) }
