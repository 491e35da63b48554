-- The slots of a dictionary-encoded view, by its codes.
use Rattle.std.proofs.Common.{◌≡◌, ◌∙◌, ℕ, ◌<◌, Bool, true, false, List, length, Option, Some, refl, sym, ap, pos}
use Rattle.std.specs.Prelude.{slice_get}
use Rattle.arrays.specs.Prelude.{Seen, codes_of, int, int32, looked_up, natural, null, number_at, valid_in}
use Rattle.arrays.proofs.DictionaryViews.{ValidCode, codes_slots, named_item, null_code, valid_code}
use Rattle.pool.specs.CodedViews.{HasCodes}

module _ (bytes : List ℕ) (validity : Option (List Bool)) (s : Seen) (i : ℕ) (has : HasCodes bytes validity s) (within : i < length s.items) where
  pub null_slot : valid_in validity i ≡ false → slice_get s.items i ≡ Some null
  null_slot none =
      named_item s i null has.items
      (null_code s (codes_of s) bytes i refl has.numbers (codes_slots s (codes_of s) i refl has.items within)
      (ap (λ o. valid_in o i) (sym has.validity_is) ∙ none))

  pub coded_slot : valid_in validity i ≡ true → ValidCode s bytes i
  coded_slot valid =
      valid_code s (codes_of s) bytes i refl has.numbers has.within (codes_slots s (codes_of s) i refl has.items within)
      (ap (λ o. valid_in o i) (sym has.validity_is) ∙ valid)

  pub named_slot : valid_in validity i ≡ true → slice_get s.items i ≡ Some (looked_up s.entries.items (int (pos (natural (number_at int32 bytes i)))))
  named_slot valid = named_item s i _ has.items (coded_slot valid).code
