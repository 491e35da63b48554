-- What an array's parts show.
use Rattle.std.proofs.Common.{◌≡◌, ◌≢◌, ℕ, List, map, false, length, Option, Some, None, option_map, refl}
use Rattle.std.specs.Arc.{arc_value}
use Rattle.types.specs.Kind as kind
use Rattle.types.specs.Kind.{Kind, kind_of, same_kind}
use Rattle.layout.specs.Prelude.{Buffers, Inner, Reading, checked_texts, do_parts_differ, inner_of, read_parts, reading}
use Rattle.layout.proofs.SeenLemmas.{length-items, seen-kind}
use Rattle.layout.proofs.LawfulLemmas.{either_false, no_dictionary, parts_agree}
use Rattle.arrays.specs.Array.{kind_with, show_array, words_with}
use Rattle.arrays.specs.declared.array.Array.TheInside.{Inside}
use Rattle.arrays.specs.declared.array.encoding.Encoding.{Encoding}

pub length-array : (a : Inside) → length (show_array a).items ≡ (arc_value a.parts).length
length-array a =
    let p = arc_value a.parts in
    length-items (kind_with (kind_of p.ty) a.encoding) p.length None p.buffers.items (map reading p.children.items) (option_map checked_texts (words_with a.encoding))

pub kind-array : (a : Inside) → (show_array a).kind ≡ kind_with (kind_of (arc_value a.parts).ty) a.encoding
kind-array a =
    let p = arc_value a.parts in
    seen-kind (kind_with (kind_of p.ty) a.encoding) p.length None p.buffers.items (map reading p.children.items) (option_map checked_texts (words_with a.encoding))

some-none : (d : Reading) → Some d ≢ None
some-none d e = cc

-- parts that have a dictionary are of its kind
present-dict : (k : Kind) (children : List Inner) (d : Reading) → do_parts_differ k children (Some (inner_of d)) ≡ false → k ≡ kind.dict
present-dict (kind.int t) children d h = let e : Some d ≡ None = no_dictionary (Some d) (either_false _ _ h).1 in absurd (some-none d e)
present-dict kind.boolean children d h = let e : Some d ≡ None = no_dictionary (Some d) (either_false _ _ h).1 in absurd (some-none d e)
present-dict (kind.texts w) children d h = let e : Some d ≡ None = no_dictionary (Some d) (either_false _ _ h).1 in absurd (some-none d e)
present-dict (kind.lists w k) children d h = let e : Some d ≡ None = no_dictionary (Some d) (either_false _ _ h).1 in absurd (some-none d e)
present-dict kind.dict children d h = refl

pub dict-lawful : (k : Kind) (n : ℕ) (buffers : Buffers) (children : List Reading) (d : Reading)
    → (read_parts k n None buffers children (Some d)).fault ≡ None → k ≡ kind.dict
dict-lawful k n buffers children d h = present-dict k (map inner_of children) d (parts_agree k n None buffers children (Some d) h)

-- an array that isn't of the kind of dictionaries names none
pub kind-plain : (k : Kind) (e : Option Encoding) → same_kind (kind_with k e) kind.dict ≡ false → kind_with k e ≡ k
kind-plain k None h = refl
kind-plain k (Some e) h = cc
