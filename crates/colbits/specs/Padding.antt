-- How a buffer is stored.
use Rattle.std.specs.Prelude.{ℕ, ◌+◌, ◌-◌, ◌*◌, ◌/◌, ◌++◌, List, length, replicate}

-- The least multiple of 64 that holds n bytes.
-- (Arrow columnar format, "Buffer alignment and padding": a length that is a multiple of 64 is recommended.)
abbrev pub stored_length : ℕ → ℕ
stored_length n = (n + 63) / 64 * 64

-- The content, and zeros up to the stored length.
abbrev pub padded : List ℕ → List ℕ
padded content = content ++ replicate (stored_length (length content) - length content) 0
