-- The rule of an opcode, found by its number as a match finds it. Assumes nothing.
use Prim.Native.Nat.{ℕ, zero-le, ◌+◌, ◌≤◌, ◌<◌}
use mathlib.Core.Path.{◌≡◌, refl}
use mathlib.Core.Bool.{Bool, cond}
use lib.ListN.{get_or-eq_default}
use Rattle.laws.proofs.Span.{all, span}
use Rattle.digest.specs.declared.BehaviorDigest.{BehaviorDigest}
use Rattle.digest.specs.Digests.{with_list}
use Rattle.record.specs.declared.Record.{Record}
use Rattle.definition.specs.Tables.{Rule, no-rule, rules, rule_of}
use Rattle.definition.specs.Behaviors.{fix_up}

-- a digest that one rule gives, where that rule is the opcode's
pub ruled : (x : Record) {rule : Rule} {d : BehaviorDigest} → rule_of x.opcode ≡ rule → d ≡ fix_up rule x x.digest → d ≡ fix_up (rule_of x.opcode) x x.digest
ruled x e p = rw e p

-- the same for the n opcodes from lo on
pub ruled_from :
    (x : Record) (rule : Rule) (lo n : ℕ) → all (λ (k : ℕ). rule_of k ≡ rule) lo n → lo ≤ x.opcode → x.opcode < lo + n
    → {d : BehaviorDigest} → d ≡ fix_up rule x x.digest → d ≡ fix_up (rule_of x.opcode) x x.digest
ruled_from x rule lo n a h k p = ruled x (span (λ (j : ℕ). rule_of j ≡ rule) lo n a x.opcode h k) p

-- a list by a test, and by what the test says of the record
pub by_test :
    (k n : ℕ) (e : BehaviorDigest) {t u : Bool} {d : BehaviorDigest} → d ≡ with_list (cond t k n) e → t ≡ u → d ≡ with_list (cond u k n) e
by_test k n e p q = rw (← q) p

-- no other opcode's rule changes the digest
module _ (x : Record) where
  pub unruled_below : x.opcode < 1 → x.digest ≡ fix_up (rule_of x.opcode) x x.digest
  unfolding rule_of fix_up
  unruled_below h = span (λ (k : ℕ). x.digest ≡ fix_up (rule_of k) x x.digest) 0 1 (refl, tt) x.opcode zero-le h

  pub unruled_past : 24 ≤ x.opcode → x.digest ≡ fix_up (rule_of x.opcode) x x.digest
  unfolding rule_of fix_up
  unruled_past h = rw (get_or-eq_default rules no-rule {n = x.opcode} h)
