-- The first of several, where none is there.
use Rattle.std.proofs.Common.{◌≡◌, List, ◌∷◌, Bool, true, false, Option, None, Some, refl}
use Rattle.std.specs.Bool.{then_some}
use Rattle.types.specs.First.{first}

pub first-none : {A : Type 0} (o : Option A) (rest : List (Option A)) → first (o ∷ rest) ≡ None → (o ≡ None) × (first rest ≡ None)
first-none None rest h = (refl, h)
first-none (Some x) rest h = absurd cc

pub then_some-none : {A : Type 0} (test : Bool) (x : A) → then_some test x ≡ None → test ≡ false
then_some-none true x h = absurd cc
then_some-none false x h = refl
