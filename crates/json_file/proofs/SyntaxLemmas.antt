-- Why there is no document where the grammar's own reader finds none.
use Rattle.std.proofs.Common.{◌≡◌, ℕ, List, [], ◌∷◌, Option, Some, None, option_map, option_and_then, refl}
use Rattle.json_scan.specs.Prelude.{Json, Token, if_last, skip_value, tokens, value}
use Rattle.json_read.specs.Prelude.{max_depth, of_json, read}
use Rattle.json_read.proofs.JsonTells.{tells_no_document, tells_wants}

not_skipped : (o : Option (Json × List Token)) → option_map (λ p. p.1) o ≡ None → option_and_then of_json (option_and_then (λ p. if_last p.0 p.1) o) ≡ None
not_skipped None e = refl
not_skipped (Some p) e = absurd cc

followed : (o : Option (Json × List Token)) (t : Token) (ts : List Token) → option_map (λ p. p.1) o ≡ Some (t ∷ ts) → option_and_then of_json (option_and_then (λ p. if_last p.0 p.1) o) ≡ None
followed None t ts e = refl
followed (Some (j, [])) t ts e = absurd cc
followed (Some (j, u ∷ us)) t ts e = refl

pub no_value : (text : List ℕ) → skip_value max_depth (tokens text) ≡ None → read text ≡ None
no_value text e = not_skipped (value max_depth (tokens text)) e

pub no_end : (text : List ℕ) (t : Token) (ts : List Token) → skip_value max_depth (tokens text) ≡ Some (t ∷ ts) → read text ≡ None
no_end text t ts e = followed (value max_depth (tokens text)) t ts e

pub ruleset no_documents = (no_value, no_end)

pub ruleset document_faults = (tells_no_document, tells_wants)
