-- What a contract leaves open: nothing, where it is one equation.
use Rattle.std.specs.Prelude.{◌≡◌}

-- any two outcomes that a contract `o ≡ x` allows are equal
abbrev pub OneOutcome : {A : Type 0} → A → Type 0
OneOutcome {A} x = (o u : A) → o ≡ x → u ≡ x → o ≡ u
