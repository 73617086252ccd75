-- Which specs are memory, by their numbers. Assumes nothing.
use Prim.Native.Nat.{ℕ, ◌≤◌, ◌<◌, zero, suc}
use mathlib.Core.Path.{◌≡◌, refl, sym, ap, ◌∙◌}
use mathlib.Core.Bool.{Bool, true, false, not, ◌&&◌, and_comm, and-false}
use mathlib.Core.List.{List, map}
use lib.Dec.{ltb, leb, eqb, leb-zero, leb-suc-zero, leb-suc-suc}
use lib.ListN.{get_or, get_or-map}
use borrow.Author.Tests.{le-leb, lt-leb}
use Rattle.implicit.proofs.Table.{firsts}
use Rattle.definition.specs.declared.Shape.TheVariants.{Nothing}
use Rattle.definition.specs.Tables.{shapes, shape_of}
use Rattle.definition.specs.Behaviors.{is_memory}
use Rattle.operand.specs.Bases.{takes_base}

-- a test at the first n numbers, and false past them
firsts_test : (n : ℕ) (f : ℕ → Bool) (k : ℕ) → get_or (firsts n f) k false ≡ (ltb k n && f k)
firsts_test zero f k = rw leb-suc-zero
firsts_test (suc n) f zero = rw (leb-suc-suc, leb-zero)
firsts_test (suc n) f (suc k) = rw leb-suc-suc (firsts_test n (λ k. f (suc k)) k)

-- the test of the whole table
memory_shapes : map is_memory shapes ≡ firsts 36 (leb 18)
unfolding is_memory
memory_shapes = refl

pub memory_spec : (s : ℕ) → is_memory (shape_of s) ≡ (leb 18 s && leb s 35)
unfolding is_memory shape_of
memory_spec s =
    sym (get_or-map is_memory shapes s Nothing)
    ∙ ap (λ (ts : List Bool). get_or ts s false) memory_shapes
    ∙ firsts_test 36 (leb 18) s
    ∙ and_comm (ltb s 36) (leb 18 s)
    ∙ ap (λ (t : Bool). leb 18 s && t) (leb-suc-suc s 35)

pub memory_in : (s : ℕ) → 18 ≤ s → s ≤ 35 → true ≡ is_memory (shape_of s)
memory_in s h g = sym (memory_spec s ∙ rw (le-leb 18 s h, le-leb s 35 g))

pub memory_below : (s : ℕ) → s < 18 → false ≡ is_memory (shape_of s)
memory_below s h = sym (memory_spec s ∙ rw (lt-leb 18 s h))

pub memory_past : (s : ℕ) → 36 ≤ s → false ≡ is_memory (shape_of s)
memory_past s h = sym (memory_spec s ∙ rw (lt-leb s 35 h, and-false))

-- the specs of memory but for two
pub based : (s : ℕ) {m : Bool} → m ≡ is_memory (shape_of s) → (m && not (eqb s 20) && not (eqb s 22)) ≡ takes_base s
unfolding takes_base
based s e = rw (e ∙ memory_spec s, and_comm (leb 18 s) (leb s 35), leb-suc-suc s 35)
