use Rattle.std.proofs.Common.{refl}
use Rattle.std.specs.Str.{bytes_eq}
use Rattle.std.specs.String.{string_bytes}
use Rattle.arrays.proofs.SchemaLemmas.{position-map}
use Rattle.pool.proofs.text_pool.TextPool.code_of.Goals as goal

pub returns-in-Some-clause-place : goal.returns-in-Some-clause-place
returns-in-Some-clause-place c =
    let same = position-map (bytes_eq c.args.text.now) (λ k. bytes_eq c.args.text.now (string_bytes k)) string_bytes (λ k. refl) c.self.inside.texts.keys in
    cc (same, c.in-Some.ensures.index, c.self.view_is)

pub returns-in-None-clause-place : goal.returns-in-None-clause-place
returns-in-None-clause-place c =
    let same = position-map (bytes_eq c.args.text.now) (λ k. bytes_eq c.args.text.now (string_bytes k)) string_bytes (λ k. refl) c.self.inside.texts.keys in
    cc (same, c.in-None.ensures.index, c.self.view_is)
