-- The filter of a query that fits.
use Rattle.std.proofs.Common.{◌≡◌, ◌&&◌, Bool, true, false, Option, Some, None, Result, Ok, Err, refl}
use Rattle.std.specs.Prelude.{is_none}
use Rattle.query.specs.Prelude.{fault_unless, is_truth}
use Rattle.query.specs.declared.fault.QueryFault.{QueryFault}
use Rattle.query.specs.declared.sort.Sort.{Sort}
use Rattle.query.specs.declared.sort.Sort.TheVariants as sort

no_fault : (shallow : Bool) (fault : Option QueryFault) → shallow && is_none fault ≡ true → fault ≡ None
no_fault true None h = refl
no_fault true (Some fault) h = absurd cc
no_fault false fault h = absurd cc

truth : (r : Result Sort QueryFault) → fault_unless is_truth r ≡ None → r ≡ Ok sort.Truth
truth (Ok (sort.Literal z)) h = absurd cc
truth (Ok (sort.Int t)) h = absurd cc
truth (Ok sort.Truth) h = refl
truth (Ok sort.Text) h = absurd cc
truth (Ok sort.List) h = absurd cc
truth (Err fault) h = absurd cc
