-- What `map_err(..)?` keeps of the result that it is called on.
use Rattle.std.proofs.Common.{◌≡◌, ◌∙◌, Result, Ok, Err, sym, subst}
use Rattle.std.specs.Result.{MatchResult, IfOk, IfErr, IsErrAnd}

-- what holds of its value holds of the value that goes on
pub value_kept : {A E F : Type 0} (P : A → Type 0) (Q : E → F → Type 0) (r : Result A E) (s : Result A F) (x : A) → MatchResult r (λ y. s ≡ Ok y) (λ e. IsErrAnd s (Q e)) → s ≡ Ok x
    → IfOk r P → P x
value_kept P Q (Ok y) s x cases is p =
    let both : Ok y ≡ Ok x = sym cases ∙ is in
    let same : y ≡ x = cc in
    subst P same p
value_kept P Q (Err e) (Ok y) x cases is p = absurd cases
value_kept P Q (Err e) (Err f) x cases is p = absurd cc

-- what the closure makes of its error is returned
pub error_made : {A B E F : Type 0} (P : F → Type 0) (W : E → Type 0) (Q : E → F → Type 0) (r : Result A E) (s : Result A F) (f : F) (made : Result B F)
    → MatchResult r (λ y. s ≡ Ok y) (λ e. IsErrAnd s (Q e)) → s ≡ Err f → IfErr r W → IsErrAnd made (λ g. g ≡ f) → ((e : E) → W e → Q e f → P f) → IfErr made P
error_made P W Q r s f (Ok z) cases is w same under = absurd same
error_made P W Q (Ok y) s f (Err g) cases is w same under = absurd cc
error_made P W Q (Err e) (Ok y) f (Err g) cases is w same under = absurd cases
error_made P W Q (Err e) (Err h) f (Err g) cases is w same under =
    let e_made : h ≡ f = cc in
    subst P (sym same) (under e w (subst (Q e) e_made cases))

-- an error that goes on as it is
pub error_kept : {B F : Type 0} (P : F → Type 0) (f : F) (made : Result B F) → IsErrAnd made (λ g. g ≡ f) → P f → IfErr made P
error_kept P f (Ok z) same p = absurd same
error_kept P f (Err g) same p = subst P (sym same) p
