-- What is left with a worker.
use Rattle.std.specs.Prelude.{ℕ, Option, refl}
use Rattle.std.specs.Coded.{Coded, code_by, coded_ℕ, coded_option, coded×}
use Rattle.shared.specs.Code.{refusal_code}
use Rattle.shared.specs.Known.{Known, known_code}
use Rattle.table.specs.declared.refusal.Refusal.{Refusal}

-- What its last receipt tells of; the file, the batch in it and the refusal that stopped it.
pub record Left : Type 0 where
  pub last : Option Known
  pub stop : Option (ℕ × ℕ × Refusal)

abbrev stop_code : Coded (ℕ × ℕ × Refusal)
stop_code =
    code_by (ℕ × (ℕ × Refusal)) (coded× coded_ℕ (coded× coded_ℕ refusal_code))
    (λ s. (s.0, (s.1, s.2)))
    (λ p. (p.0, p.1.0, p.1.1))
    (λ _. refl)

abbrev pub left_code : Coded Left
left_code =
    code_by (Option Known × Option (ℕ × ℕ × Refusal))
    (coded× (coded_option known_code) (coded_option stop_code))
    (λ l. (l.last, l.stop))
    (λ p. record { last = p.0; stop = p.1 })
    (λ _. refl)
