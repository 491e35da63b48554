use Rattle.arrays.proofs.NumberLemmas.{int_kind, some_int}
use Rattle.arrays.proofs.view.View.int_at.Goals as goal

pub int_as-requires-clause-int : goal.int_as-requires-clause-int
int_as-requires-clause-int c = int_kind c.self.inside c.args.self.now c.in-Int.ty c.self.view_is c.in-Int.is

pub unreachable-requires : goal.unreachable-requires
unreachable-requires c = some_int c.self.inside c.args.self.now c.self.view_is c.in_default.not-Int c.requires.int
