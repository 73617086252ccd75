-- A field of a number, as a run of its bits: at a place, which is a power of two, and of `width` values.
use Rattle.std.specs.Prelude.{ℕ, ◌+◌, ◌*◌, ◌/◌, ◌%◌}

-- what the field holds
abbrev pub field_at : ℕ → ℕ → ℕ → ℕ
field_at x place width = x / place % width

-- the number with v in the field, and everything above and below as it was
abbrev pub with_field : ℕ → ℕ → ℕ → ℕ → ℕ
with_field x place width v = x / (width * place) * (width * place) + v * place + x % place
