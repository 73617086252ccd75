-- Bit 5, and within 24 to 27 the first spec. Assumes nothing.
use Prim.Native.Nat.{◌≤◌, ◌<◌}
use mathlib.Core.Path.{◌≡◌, sym, ◌∙◌}
use mathlib.Core.Bool.{Bool, true, false, not, and-false}
use lib.Dec.{eqb}
use borrow.Author.Tests.{le-leb, lt-leb}
use Rattle.digest.specs.Digests.{is_complex}
use Rattle.record.specs.Records.{spec_at}
use Rattle.record.specs.declared.Record.{Record}
use Rattle.definition.specs.Behaviors.{complex}

module _ (x : Record) {t : Bool} (e : t ≡ is_complex x.digest) where
  pub without_bit : t ≡ false → false ≡ complex x
  unfolding complex
  without_bit h = rw (sym e ∙ h)

  pub with_bit_tests : t ≡ true → 24 ≤ x.opcode → x.opcode ≤ 27 → not (eqb (spec_at x 0) 2) ≡ complex x
  unfolding complex
  with_bit_tests h f g = rw (sym e ∙ h, le-leb 24 x.opcode f, le-leb x.opcode 27 g)

  pub with_bit_below : t ≡ true → x.opcode < 24 → true ≡ complex x
  unfolding complex
  with_bit_below h f = rw (sym e ∙ h, lt-leb 24 x.opcode f)

  pub with_bit_above : t ≡ true → 28 ≤ x.opcode → true ≡ complex x
  unfolding complex
  with_bit_above h f = rw (sym e ∙ h, lt-leb x.opcode 27 f, and-false)
