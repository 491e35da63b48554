-- Comparisons in the making.
use Rattle.std.specs.Prelude.{Bool}
use Rattle.std.specs.declared.cmp.Ordering.{Ordering}
use Rattle.std.specs.declared.cmp.Ordering.TheVariants.{Less, Equal, Greater}
use Rattle.kernels.specs.declared.comparison.wanted.Wanted.{Wanted}

-- Whether two items that stand so to each other are wanted.
abbrev pub wants : Wanted → Ordering → Bool
wants w Less = w.less
wants w Equal = w.equal
wants w Greater = w.greater
