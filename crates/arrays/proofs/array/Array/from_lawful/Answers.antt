use Rattle.std.proofs.Common.{◌≡◌, ◌∙◌, IfOk, None, Some, ap, map, option_map, subst, sym}
use Rattle.std.specs.Arc.{arc_value}
use Rattle.types.specs.Kind.{kind_of}
use Rattle.layout.specs.Prelude.{Seen, checked_texts, read_checked, reading}
use Rattle.layout.specs.declared.raw.RawArray.{out-RawArray}
use Rattle.layout.proofs.LawfulLemmas.{dictionary_raw, MakesArray-raw}
use Rattle.arrays.proofs.PartsLemmas.{dict-lawful}
use Rattle.arrays.proofs.array.Array.from_lawful.Goals as goal

pub shared-requires : goal.shared-requires
shared-requires c = dictionary_raw c.args.raw c.requires

pub encoded-requires : goal.encoded-requires
encoded-requires c =
    let r = out-RawArray c.args.raw in
    let words = arc_value c.in-Some.words in
    let makes = MakesArray-raw c.args.raw (Some words) c.requires (ap (option_map arc_value) (sym c.in-Some.is) ∙ c.in_ok-words.ensures) in
    let is = dict-lawful (kind_of r.ty) r.length r.buffers.items (map reading r.children.items) (checked_texts words) makes.lawful in
    ap (λ k. (read_checked k r.length r.buffers.items r.children.items (Some words)).fault) (sym is) ∙ makes.lawful

pub plain-requires : goal.plain-requires
plain-requires c = (MakesArray-raw c.args.raw None c.requires (ap (option_map arc_value) (sym c.in-None.is) ∙ c.in_ok-words.ensures)).lawful

pub returns-in-Some : goal.returns-in-Some
returns-in-Some c =
    let r = out-RawArray c.args.raw in
    let words = arc_value c.in-Some.words in
    let makes = MakesArray-raw c.args.raw (Some words) c.requires (ap (option_map arc_value) (sym c.in-Some.is) ∙ c.in_ok-words.ensures) in
    let is = dict-lawful (kind_of r.ty) r.length r.buffers.items (map reading r.children.items) (checked_texts words) makes.lawful in
    subst (λ (s : Seen). IfOk c.encoded.result (λ a. a ≡ s)) (ap (λ k. (read_checked k r.length r.buffers.items r.children.items (Some words)).seen) (sym is) ∙ makes.shows) c.encoded.ensures

pub returns-in-None : goal.returns-in-None
returns-in-None c =
    let makes = MakesArray-raw c.args.raw None c.requires (ap (option_map arc_value) (sym c.in-None.is) ∙ c.in_ok-words.ensures) in
    subst (λ (s : Seen). IfOk c.plain.result (λ a. a ≡ s)) makes.shows c.plain.ensures
