-- What readers are shown, one after the other.
use Rattle.std.specs.Prelude.{ℕ, ◌+◌, ◌%◌, ◌^◌, refl}
use Rattle.std.specs.Coded.{Coded, code_by, coded_ℕ, coded×}
use Rattle.table.specs.Contents.{Contents, contents_code}

-- What a table holds, and which of those that were shown it is.
pub record Showing : Type 0 where
  pub contents : Contents
  pub number : ℕ

abbrev pub showing_code : Coded Showing
showing_code =
    code_by (Contents × ℕ) (coded× contents_code coded_ℕ)
    (λ s. (s.contents, s.number))
    (λ p. record { contents = p.0; number = p.1 })
    (λ _. refl)

-- The number of the next one, above all before it: they are counted in 64 bits.
abbrev pub next_number : ℕ → ℕ
next_number n = (n + 1) % 2 ^ 64
