-- What is known of a register: a number, or nothing.
use Rattle.std.specs.Prelude.{ℕ, Option}

abbrev pub Value : Type 0
Value = Option ℕ
