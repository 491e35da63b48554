use Rattle.std.proofs.Common.{◌≡◌, ◌++◌, ◌*◌, map}
use Rattle.std.specs.List.{range_with_len}
use Rattle.colbits.proofs.bitmap.builder.BitmapBuilder.add_places.Given as goal

-- the places of the words so far are added
abbrev pub invariant-loop-w : goal.invariant-loop-w
invariant-loop-w g l = l.self ≡ l.fn.self ++ map (g.P.Places.at l.places) (range_with_len 0 (64 * l.w))
