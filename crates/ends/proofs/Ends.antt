-- What failing calls leave of an end's bytes.
use Rattle.std.proofs.Common.{ℕ, List, ◌+◌, ◌-◌, length, take, drop, Result, Ok, Err, Option}
use Rattle.std.specs.Prelude.{OnErr}
use Rattle.std.specs.Io.KnownBytes.{Consumes, Appends, Keeps}
use Rattle.std.proofs.Math.Seq.{take-add}
use Rattle.std.proofs.lemmas.List.{take_rest}
use Rattle.std.proofs.KnownBytes.{Consumes-kept, Consumes-trans, Appends-trans}
use Rattle.ends.specs.Source.{LosesFront}

-- what holds anyway holds where a call failed
pub on_err : {A E P : Type 0} (r : Result A E) → P → OnErr r P
on_err (Ok _) p = tt
on_err (Err _) p = p

-- a read that failed keeps what was lost before it
pub LosesFront-kept : (a b c : Option (List ℕ)) (front : List ℕ) → Consumes a b front → Keeps b c → LosesFront a c
LosesFront-kept a b c front lost kept = (front, Consumes-kept a b c front lost kept)

-- two fronts, one after the other, are one
pub LosesFront-more : (a b c : Option (List ℕ)) (front next : List ℕ) → Consumes a b front → Consumes b c next → LosesFront a c
LosesFront-more a b c front next lost more = (_, Consumes-trans a b c front next lost more)

-- a front of the text, and then a front of the rest, are a front of the text
pub Appends-more : (a b c : Option (List ℕ)) (text : List ℕ) (i n : ℕ) → Appends a b (take i text)
    → Appends b c (take n (take (length text - i) (drop i text))) → Appends a c (take (i + n) text)
Appends-more a b c text i n first next =
    rw (take-add i n text) (Appends-trans a b c _ _ first (rw (take_rest text i) at next))
