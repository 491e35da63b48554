use Rattle.std.proofs.Common.{◌≡◌, ◌∙◌, ◌++◌, ◌∷◌, [], map, false, ap}
use Rattle.std.specs.String.{string_bytes}
use Rattle.pool.specs.Texts.{is_among}
use Rattle.pool.proofs.PoolLemmas.{inserted}
use Rattle.json_print.proofs.text_set.TextSet.add_new.Goals as goal

pub returns : goal.returns
returns c =
    let t = c.args.text.now in
    let keys = c.self.inside.texts.keys in
    let apart : is_among (map string_bytes keys) t ≡ false = ap (λ ts. is_among ts t) c.self.view_is ∙ c.requires in
    inserted keys c.insert.new.self.keys c.in_ok-copy.copy t c.in_ok-insert.ensures.keys c.in_ok-copy.ensures.ok apart
    ∙ ap (λ ts. ts ++ t ∷ []) c.self.view_is
