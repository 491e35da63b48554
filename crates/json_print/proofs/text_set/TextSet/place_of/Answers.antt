use Rattle.std.proofs.Common.{refl}
use Rattle.std.specs.Str.{bytes_eq}
use Rattle.std.specs.String.{string_bytes}
use Rattle.arrays.proofs.SchemaLemmas.{position-map}
use Rattle.json_print.proofs.text_set.TextSet.place_of.Goals as goal

pub returns : goal.returns
returns c =
    let same = position-map (bytes_eq c.args.text.now) (λ k. bytes_eq c.args.text.now (string_bytes k)) string_bytes (λ k. refl) c.self.inside.texts.keys in
    cc (same, c.get_index_of.ensures.index, c.self.view_is)
