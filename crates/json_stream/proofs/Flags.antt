-- Flags as bits.
use Rattle.std.proofs.Common.{◌≡◌, ◌∙◌, ℕ, zero, suc, List, [], ◌∷◌, ◌++◌, length, Bool, Some, refl, sym, ap, ap₂}
use Rattle.std.specs.List.{slice_get}
use Rattle.std.proofs.lemmas.List.{map-append, length-map}
use Rattle.json_read.specs.Prelude.{Data, flag_of, flagged_at, no_items}
use Rattle.json_scan.specs.Spelling.{before}
use Rattle.json_stream.specs.Validity.{AreFlags}

pub flags_more : (ds : List Data) (bits : List Bool) (d : Data) (b : Bool) → AreFlags ds bits → flag_of d ≡ Some b → AreFlags (ds ++ d ∷ []) (bits ++ b ∷ [])
flags_more ds bits d b are is = map-append flag_of ds (d ∷ []) ∙ ap₂ (λ xs x. xs ++ x ∷ []) are is ∙ sym (map-append Some bits (b ∷ []))

pub flags_len : (ds : List Data) (bits : List Bool) → AreFlags ds bits → length ds ≡ length bits
flags_len ds bits are = sym (length-map ds flag_of) ∙ ap length are ∙ length-map bits Some

pub flag_at : (ds : List Data) (bits : List Bool) (i : ℕ) → AreFlags ds bits → flagged_at (Some (before ds no_items)) i ≡ slice_get bits i
flag_at [] [] i are = refl
flag_at [] (b ∷ bits) i are = absurd cc
flag_at (d ∷ ds) [] i are = absurd cc
flag_at (d ∷ ds) (b ∷ bits) zero are = cc
flag_at (d ∷ ds) (b ∷ bits) (suc i) are =
    let rest : AreFlags ds bits = cc in
    flag_at ds bits i rest
