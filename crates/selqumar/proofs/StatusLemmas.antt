-- What a call leaves in its caller's buffer of an answer, by what is known of the answer.
use Rattle.std.proofs.Common.{◌≡◌, ◌⊎◌, inl, inr, ℕ, List, Result, Err, IfErr, IfOk, string_bytes, subst, sym}
use Rattle.std.proofs.Math.Logic.{⊎_map}
use Rattle.std.specs.declared.alloc.Global.{Global}
use Rattle.std.specs.declared.string.String.{String}
use Rattle.embed.specs.Prelude.{Contents, HoldsFiles, IsAnswered, NoMemory, PrintsAnswer, RunFault, StopsAnswer, StopsQuery}
use Rattle.selqumar.specs.Status.{IsLine, IsTextOf, Leaves}

module _ (answered : Result (String Global) RunFault) (gives : List ℕ → Type 0) (stands : RunFault → Type 0) (ok : IfOk answered (λ t. gives (string_bytes t))) (err : IfErr answered (λ e. (e ≡ NoMemory) ⊎ stands e)) where
  given : (text : List ℕ) → IsTextOf answered text → gives text
  given text is = subst gives (sym is.2) (subst (λ r. IfOk r (λ t. gives (string_bytes t))) is.1 ok)

  line : (text : List ℕ) → IsLine (λ e. answered ≡ Err e) text → IsLine stands text
  line text is = (is.0, is.1, elim (subst (λ r. IfErr r (λ e. (e ≡ NoMemory) ⊎ stands e)) is.2 err) as (λ _. stands is.0) [ inl wants ↦ absurd (is.1 wants) | inr why ↦ why ], is.3)

  pub leaves-answer : (status : ℕ) (old new : List ℕ) (needed_old needed_new : ℕ) → Leaves (IsTextOf answered) (IsLine (λ e. answered ≡ Err e)) status old new needed_old needed_new
      → Leaves gives (IsLine stands) status old new needed_old needed_new
  leaves-answer status old new needed_old needed_new left = record {
    given = λ zero. let is = left.given zero in (is.0, given is.0 is.1, is.2);
    fault = λ one. let is = left.fault one in (is.0, line is.0 is.1, is.2);
    short = λ two. let is = left.short two in (is.0, ⊎_map (given is.0) (line is.0) is.1, is.2);
    memory = left.memory;
  }

-- ---- a table of files answers as the files do

module _ (query : List ℕ) (texts : List (List ℕ)) (t : Contents) (holds : HoldsFiles texts t.fields t.history) where
  pub answers-files : (text : List ℕ) → PrintsAnswer query t.fields t.history text → IsAnswered query texts text
  answers-files text is = (is.0, is.1, record { fields = t.fields; history = t.history; holds = holds; is = is.2 })

  pub stops-files : (fault : RunFault) → (fault ≡ NoMemory) ⊎ StopsAnswer query t.fields t.history fault → (fault ≡ NoMemory) ⊎ StopsQuery query texts fault
  stops-files fault (inl wanting) = inl wanting
  stops-files fault (inr (inl unread)) = inr (inl unread)
  stops-files fault (inr (inr is)) = inr (inr (inl (is.0, is.1, record { fields = t.fields; history = t.history; holds = holds; is = is.2 })))
