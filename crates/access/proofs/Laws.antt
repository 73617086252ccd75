-- Facts for callers: accesses and levels are two bits and are told apart by their numbers, and what the calls on a set of vectors
-- answer at a vector that there is, and at one that there is not. Assumes nothing.
use Prim.Native.Nat.{ℕ, ◌%◌, ◌≤◌, ◌<◌}
use native.Mathlib.Omega.{arith}
use mathlib.Core.Path.{◌≡◌, refl, sym, ap, ◌∙◌}
use mathlib.Core.Bool.{Bool}
use lib.Dec.{lit<}
use borrow.Author.Tests.{lt-ltb, le-ltb}
use Rattle.laws.specs.Words.{bit}
use Rattle.laws.proofs.Span.{span}
use Rattle.access.specs.Accesses.{access_number, access_of}
use Rattle.access.specs.Privileges.{level_number, level_of}
use Rattle.access.specs.Exceptions.{info_of, with_bit, set_of, may_of}
use Rattle.access.specs.declared.Access.{Access}
use Rattle.access.specs.declared.Access.TheVariants.{None, Read, Write, ReadWrite}
use Rattle.access.specs.declared.PrivilegeLevel.{PrivilegeLevel}
use Rattle.access.specs.declared.PrivilegeLevel.TheVariants.{Any, PL0, Special, Reserved}
use Rattle.access.specs.declared.ExceptionInfo.{ExceptionInfo}
use Rattle.std.specs.Prelude.{Ok, Err}
use Rattle.laws.specs.declared.refusals.Refusal.TheVariants.{Outside}

pub access_lt : (a : Access) → access_number a < 4
access_lt None = lit< tt
access_lt Read = lit< tt
access_lt Write = lit< tt
access_lt ReadWrite = lit< tt

pub level_lt : (l : PrivilegeLevel) → level_number l < 4
level_lt Any = lit< tt
level_lt PL0 = lit< tt
level_lt Special = lit< tt
level_lt Reserved = lit< tt

-- an access is that of its number
pub access_back : (a : Access) → access_of (access_number a) ≡ a
access_back None = refl
access_back Read = refl
access_back Write = refl
access_back ReadWrite = refl

-- two bits are the number of their access
pub access_number_lem : (n : ℕ) → access_number (access_of (n % 4)) ≡ n % 4
access_number_lem n = span (λ (k : ℕ). access_number (access_of k) ≡ k) 0 4 (refl, (refl, (refl, (refl, tt)))) (n % 4) (omega arith) (omega arith)

-- a number is that of one access alone
pub access_one : (a b : Access) → access_number a ≡ access_number b → a ≡ b
access_one a b e = sym (access_back a) ∙ ap access_of e ∙ access_back b

-- a level is that of its number
pub level_back : (l : PrivilegeLevel) → level_of (level_number l) ≡ l
level_back Any = refl
level_back PL0 = refl
level_back Special = refl
level_back Reserved = refl

-- two bits are the number of their level
pub level_number_lem : (n : ℕ) → level_number (level_of (n % 4)) ≡ n % 4
level_number_lem n = span (λ (k : ℕ). level_number (level_of k) ≡ k) 0 4 (refl, (refl, (refl, (refl, tt)))) (n % 4) (omega arith) (omega arith)

pub level_one : (a b : PrivilegeLevel) → level_number a ≡ level_number b → a ≡ b
level_one a b e = sym (level_back a) ∙ ap level_of e ∙ level_back b

module _ (i : ExceptionInfo) (k : ℕ) where
  pub set_taken : (b : Bool) → k ≤ 31 → set_of i k b ≡ Ok (info_of (with_bit i.vectors k b))
  unfolding set_of
  set_taken b h = rw (le-ltb 31 k h)

  pub set_refused : (b : Bool) → 31 < k → set_of i k b ≡ Err Outside
  unfolding set_of
  set_refused b h = rw (lt-ltb 31 k h)

  pub may_taken : k ≤ 31 → may_of i k ≡ Ok (bit i.vectors k)
  unfolding may_of
  may_taken h = rw (le-ltb 31 k h)

  pub may_refused : 31 < k → may_of i k ≡ Err Outside
  unfolding may_of
  may_refused h = rw (lt-ltb 31 k h)
