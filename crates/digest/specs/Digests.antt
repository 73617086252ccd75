-- The behavior digest: `behavior` has bits 0-1 privilege, 2-3 flags access, 4 nontrivial, 5 complex, and 6-7 ignored; `operands` has
-- two bits of access for each operand, lowest first; `extra` is the number of the implicit list.
use Rattle.std.specs.Prelude.{ℕ, ◌^◌, Bool, cond, ltb, Result, Ok, Err}
use Rattle.laws.specs.Words.{bit}
use Rattle.laws.specs.Refusals.{refused_by}
use Rattle.laws.specs.declared.refusals.Refusal.{Refusal}
use Rattle.laws.specs.declared.refusals.Refusal.TheVariants.{Outside}
use Rattle.access.specs.Fields.{field_at, with_field}
use Rattle.digest.specs.declared.BehaviorDigest.{BehaviorDigest}

abbrev pub empty_digest : BehaviorDigest
empty_digest = record { behavior = 0; operands = 0; extra = 0 }

abbrev pub privilege_of : BehaviorDigest → ℕ
privilege_of d = field_at d.behavior 1 4

abbrev pub flags_access : BehaviorDigest → ℕ
flags_access d = field_at d.behavior 4 4

-- the access of an operand: 0 for every operand above 3, since `operands` is a byte
abbrev pub access_at : BehaviorDigest → ℕ → ℕ
access_at d i = field_at d.operands (4 ^ i) 4

abbrev pub is_nontrivial : BehaviorDigest → Bool
is_nontrivial d = bit d.behavior 4

abbrev pub is_complex : BehaviorDigest → Bool
is_complex d = bit d.behavior 5

unfoldable pub with_behavior : ℕ → ℕ → ℕ → BehaviorDigest → BehaviorDigest
with_behavior place width v d =
    record { behavior = with_field d.behavior place width v; operands = d.operands; extra = d.extra }

abbrev pub with_privilege : ℕ → BehaviorDigest → BehaviorDigest
with_privilege v d = with_behavior 1 4 v d

abbrev pub with_flags : ℕ → BehaviorDigest → BehaviorDigest
with_flags a d = with_behavior 4 4 a d

abbrev pub with_nontrivial : Bool → BehaviorDigest → BehaviorDigest
with_nontrivial b d = with_behavior 16 2 (cond b 1 0) d

abbrev pub with_complex : Bool → BehaviorDigest → BehaviorDigest
with_complex b d = with_behavior 32 2 (cond b 1 0) d

unfoldable pub with_access : ℕ → ℕ → BehaviorDigest → BehaviorDigest
with_access i a d =
    record { behavior = d.behavior; operands = with_field d.operands (4 ^ i) 4 a; extra = d.extra }

unfoldable pub with_list : ℕ → BehaviorDigest → BehaviorDigest
with_list l d = record { behavior = d.behavior; operands = d.operands; extra = l }

-- a setter's answers: an operand above 3 and a list above 28 are refused 2
unfoldable pub operand_answer : ℕ → ℕ → BehaviorDigest → Result BehaviorDigest Refusal
operand_answer i a d = cond (ltb 3 i) (Err Outside) (Ok (with_access i a d))

unfoldable pub list_answer : ℕ → BehaviorDigest → Result BehaviorDigest Refusal
list_answer l d = cond (ltb 28 l) (Err Outside) (Ok (with_list l d))

-- in a chain the first refusal stands
abbrev pub then : Result BehaviorDigest Refusal → (BehaviorDigest → Result BehaviorDigest Refusal) → Result BehaviorDigest Refusal
then (Ok d) f = f d
then (Err r) f = Err r

-- document 01's number of an answer, and the digest that it carries: where it is refused every number is 0
abbrev pub digest_number : Result BehaviorDigest Refusal → ℕ
digest_number a = refused_by a

abbrev pub digest_in : Result BehaviorDigest Refusal → BehaviorDigest
digest_in (Ok d) = d
digest_in (Err r) = empty_digest
