use Rattle.std.proofs.Common.{◌≡◌, ◌++◌, ◌∷◌, [], Some, ap, map, refl, subst}
use Rattle.std.specs.Option.{ForSome}
use Rattle.std.specs.Prelude.{IfOk, slice_get, unwrap_or}
use Rattle.indexmap.specs.IndexSet.{insert_key}
use Rattle.keys.specs.PartSets.{parts_of_code, same_parts}
use Rattle.keys.specs.declared.part.Part.{Part}
use Rattle.keys.proofs.PartSetLemmas.{code_again, code_new, code_shown, if_place}
use Rattle.keys.proofs.part_set.place_in_codes.Goals as goal

pub returns-in-Some-place_of-clause-keys : goal.returns-in-Some-place_of-clause-keys
returns-in-Some-place_of-clause-keys c n is =
    let xs = c.args.codes.now in
    subst (λ (p : Part). map parts_of_code xs ≡ insert_key same_parts (map parts_of_code xs) (p ∷ [])) (c.in-Some.ensures c.in-Some.code refl)
    (code_again xs c.in-Some-place_of.place c.in-Some.code (c.in-Some-place_of.ensures.there c.in-Some-place_of.place refl))

pub returns-in-Some-place_of-clause-place : goal.returns-in-Some-place_of-clause-place
returns-in-Some-place_of-clause-place c n is =
    let xs = c.args.codes.now in
    subst (λ m. slice_get (map parts_of_code xs) m ≡ Some (c.args.part ∷ [])) (ap (λ o. unwrap_or o 0) is)
    (subst (λ (p : Part). slice_get (map parts_of_code xs) c.in-Some-place_of.place ≡ Some (p ∷ [])) (c.in-Some.ensures c.in-Some.code refl)
    (code_shown xs c.in-Some-place_of.place c.in-Some.code (c.in-Some-place_of.ensures.there c.in-Some-place_of.place refl)))

pub returns-clause-keys : goal.returns-clause-keys
returns-clause-keys c =
    let x = c.in-Some.code in
    let old = c.args.codes.now in
    let new = c.add_new.new.self in
    let absent = c.in_default-place_of.ensures.absent refl in
    subst (λ (p : Part). IfOk c.add_new.result (λ o. ForSome o (λ n. map parts_of_code new ≡ insert_key same_parts (map parts_of_code old) (p ∷ []))))
    (c.in-Some.ensures x refl)
    (if_place c.add_new.result (λ n. new ≡ old ++ x ∷ []) (λ n. map parts_of_code new ≡ insert_key same_parts (map parts_of_code old) (parts_of_code x))
    (λ n is. code_new old new x is absent) c.add_new.ensures.codes)

pub returns-clause-place : goal.returns-clause-place
returns-clause-place c =
    let x = c.in-Some.code in
    let new = c.add_new.new.self in
    subst (λ (p : Part). IfOk c.add_new.result (λ o. ForSome o (λ n. slice_get (map parts_of_code new) n ≡ Some (p ∷ []))))
    (c.in-Some.ensures x refl)
    (if_place c.add_new.result (λ n. slice_get new n ≡ Some x) (λ n. slice_get (map parts_of_code new) n ≡ Some (parts_of_code x))
    (λ n at. code_shown new n x at) c.add_new.ensures.place)
