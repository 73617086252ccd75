-- What the stores of a writer leave is the item's bytes. Assumes nothing.
use Prim.Native.Nat.{ℕ, ◌+◌, ◌≤◌, ◌<◌}
use native.Mathlib.Omega.{arith}
use native.Mathlib.Numerals.{add-one}
use mathlib.Core.Path.{◌≡◌, refl, sym}
use mathlib.Core.List.{List, [], ◌∷◌, ◌++◌}
use lib.ListN.{length, drop, set, length-append}
use Rattle.laws.specs.Words.{little}
use Rattle.laws.specs.Lending.{size, Logged}
use Rattle.laws.proofs.Lending.{part, back, laid, stored, same_long}
use Rattle.laws.proofs.OneByOne.{one_size, logged, unlogged}
use Rattle.access.specs.Accesses.{access_number}
use Rattle.access.specs.declared.Access.{Access}
use Rattle.implicit.specs.declared.ImplicitOperand.{ImplicitOperand}
use Rattle.definition.specs.declared.Item.TheVariants.{Implicit}
use Rattle.definition.specs.Listings.{operand_bytes, item_bytes}

-- the room of one thing is that of its bytes
pub one_room : {A : Type 0} (enc : A → List ℕ) {x e : A} {k : ℕ} → x ≡ e → size enc (x ∷ []) ≤ k → length (enc e) ≤ k
one_room enc {e = e} p h = rw (p, one_size enc e) at h

-- an operand and its access behind it
module _ (o : ImplicitOperand) (a : Access) where
  operand_length : length (item_bytes (Implicit o a)) ≡ length (operand_bytes o) + 1
  unfolding item_bytes
  operand_length = length-append (operand_bytes o) (access_number a ∷ [])

  pub operand_room : {k : ℕ} → size item_bytes (Implicit o a ∷ []) ≤ k → size operand_bytes (o ∷ []) + 1 ≤ k
  operand_room h = omega (arith, one_size item_bytes (Implicit o a), one_size operand_bytes o, operand_length)

  -- there is a place for the access, and a number for the place behind it
  pub access_room :
      {old mid : List ℕ} {n : ℕ}
      → size item_bytes (Implicit o a ∷ []) ≤ length old → Logged operand_bytes (o ∷ []) old mid n → (n < length mid) × (length mid ≡ length old)
  unfolding size
  access_room h l =
      let r = operand_room h in
      let e = same_long l (omega arith) in
      (omega (arith, l.count), e)

  pub access_behind :
      {old mid : List ℕ} {n : ℕ}
      → size item_bytes (Implicit o a ∷ []) ≤ length old → Logged operand_bytes (o ∷ []) old mid n
      → Logged item_bytes (Implicit o a ∷ []) old (set mid n (access_number a)) (n + 1)
  unfolding item_bytes
  access_behind {old} {mid} {n} h l =
      let w = unlogged operand_bytes o l in
      let r = operand_room h in
      let room : n + 1 ≤ length old = omega (arith, w.0, one_size operand_bytes o) in
      logged item_bytes (Implicit o a) (
        rw (operand_length, ← w.0) refl,
        rw (operand_length, ← w.0, w.1, ← w.0) (stored (operand_bytes o) old (access_number a) (sym w.0) (rw (← add-one n) room)),
      )

-- a displacement, through the part that is lent on behind three bytes
pub displaced :
    (xs : List ℕ) (d : ℕ) (old : List ℕ) {mid new : List ℕ}
    → length xs ≡ 3 → mid ≡ xs ++ drop 3 old → new ≡ little 4 d ++ drop 4 (part mid 3) → back mid 3 new ≡ (xs ++ little 4 d) ++ drop 7 old
displaced xs d old three before lent = laid xs (little 4 d) old 4 three before lent
