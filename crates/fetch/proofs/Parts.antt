-- The needs of a record are those of its implicit list and of its operands. Assumes nothing.
use Prim.Native.Nat.{ℕ, ◌+◌, ◌≤◌, ◌<◌}
use mathlib.Core.Path.{◌≡◌, refl, ap, ap₂, ◌∙◌}
use mathlib.Core.List.{List, [], ◌∷◌, ◌++◌, map, append-nil}
use mathlib.Core.Bool.{Bool, true, false, not, cond, ◌&&◌}
use lib.ListN.{length, drop, drop_of_length-le}
use borrow.Author.Tests.{eq-eqb, ne_eqb}
use Rattle.laws.specs.Lists.{each, flat}
use Rattle.laws.proofs.Lists.{each_append}
use Rattle.access.specs.Accesses.{reading, writing}
use Rattle.sets.specs.Sets.{joined}
use Rattle.sets.proofs.Joined.{joined_append}
use Rattle.registers.specs.declared.RegSpec.{RegSpec}
use Rattle.digest.specs.Digests.{flags_access}
use Rattle.implicit.specs.Lists.{implicit_of}
use Rattle.implicit.specs.declared.Way.{Way}
use Rattle.implicit.specs.declared.Way.TheVariants.{Read, Write}
use Rattle.implicit.specs.declared.ImplicitOperand.TheVariants as implied
use Rattle.implicit.specs.declared.Entry.{Entry}
use Rattle.implicit.specs.declared.Entry.TheVariants as entries
use Rattle.record.specs.Records.{reg_at}
use Rattle.record.specs.declared.Record.{Record}
use Rattle.definition.specs.Addresses.{term_registers, registers_of, base_of, index_of, operand_address, segment_registers, segment_of}
use Rattle.definition.specs.Behaviors.{Operand, operand_at, operands_of}
use Rattle.definition.specs.Steps.{reads, writes, touches, register_step, mask_for, mask_registers, mask_steps, is_lea, read_part, write_part, operand_steps, shape_base, slot_registers, implicit_step, entry_steps, rflags, flag_steps, steps_of}
use Rattle.definition.specs.declared.Term.{Term}
use Rattle.definition.specs.declared.Shape.{Shape}
use Rattle.definition.specs.declared.Shape.TheVariants.{Nothing, Register, Fourth, Immediate, Memory}
use Rattle.definition.proofs.Operands.{operand_step}
use Rattle.fetching.specs.Needs.{slots_of, access_needs, step_needs}
use Rattle.fetch.specs.Parts.{shape_index, shape_segment, shape_needs, loads_at, operand_needs, form_needs, entry_needs, list_needs}

-- What steps need, as lists
module _ {A B C : Type 0} where
  each_each : (g : B → List C) (f : A → List B) (xs : List A) → each g (each f xs) ≡ each (λ (x : A). each g (f x)) xs
  unfolding each
  each_each g f [] = refl
  each_each g f (x ∷ xs) = each_append g (f x) (each f xs) ∙ ap (λ (l : List C). each g (f x) ++ l) (each_each g f xs)

module _ {A B : Type 0} where
  each_same : (f g : A → List B) → ((x : A) → f x ≡ g x) → (xs : List A) → each f xs ≡ each g xs
  unfolding each
  each_same f g h [] = refl
  each_same f g h (x ∷ xs) = ap₂ ◌++◌ (h x) (each_same f g h xs)

  each_segments : (f : A → List B) (ss : List (List A)) → each f (flat ss) ≡ flat (map (each f) ss)
  unfolding each flat
  each_segments f [] = refl
  each_segments f (s ∷ ss) = each_append f s (flat ss) ∙ ap (λ (l : List B). each f s ++ l) (each_segments f ss)

  each_cond : (f : A → List B) (t : Bool) (xs : List A) → each f (cond t xs []) ≡ cond t (each f xs) []
  unfolding each
  each_cond f true xs = refl
  each_cond f false xs = refl

none_either : (t : Bool) → [] ≡ cond {A = List ℕ} t [] []
none_either true = refl
none_either false = refl

-- registers that are moved need nothing
read_only : (ys : List RegSpec) → each step_needs (map reads ys) ≡ []
unfolding each step_needs
read_only [] = refl
read_only (y ∷ ys) = read_only ys

moved_only : (w : Way) (ys : List RegSpec) → each step_needs (map (register_step w) ys) ≡ []
unfolding each step_needs
moved_only w [] = refl
moved_only Read (y ∷ ys) = moved_only Read ys
moved_only Write (y ∷ ys) = moved_only Write ys

-- The access of a shape: the base of its segment, its base, then its index
pub shape_needs_lem :
    (x : Record) (s : Shape)
    → shape_needs x s
    ≡ each slots_of (segment_registers (shape_segment x s))
    ++ (each slots_of (term_registers (base_of x (shape_base s))) ++ each slots_of (term_registers (index_of x (shape_index s))))
unfolding shape_needs access_needs shape_segment shape_base shape_index operand_address segment_registers registers_of term_registers base_of index_of each
shape_needs_lem x Nothing = refl
shape_needs_lem x (Register i m) = refl
shape_needs_lem x Fourth = refl
shape_needs_lem x Immediate = refl
shape_needs_lem x (Memory b i d m) =
    each_append slots_of (segment_registers (segment_of x b)) (term_registers (base_of x b) ++ term_registers (index_of x i))
    ∙ ap (λ (l : List ℕ). each slots_of (segment_registers (segment_of x b)) ++ l)
    (each_append slots_of (term_registers (base_of x b)) (term_registers (index_of x i)))

-- Its read part, and its write part
module _ (x : Record) where
  read_needs : (s : Shape) → each step_needs (read_part x s) ≡ cond (is_lea x) [] (shape_needs x s)
  unfolding read_part shape_needs step_needs each
  read_needs Nothing = none_either (is_lea x)
  read_needs (Register i m) = read_only (mask_registers (mask_for x m)) ∙ none_either (is_lea x)
  read_needs Fourth = none_either (is_lea x)
  read_needs Immediate = none_either (is_lea x)
  read_needs (Memory b i d m) = by (is_lea x)
    where
      by :
          (t : Bool)
          → each step_needs (cond t (map reads (registers_of (operand_address x b i d)) ++ mask_steps (mask_for x m)) (touches Read (segment_of x b) (operand_address x b i d) (mask_for x m) x.size ∷ []))
          ≡ cond t [] (access_needs (segment_of x b) (operand_address x b i d))
      by true =
          each_append step_needs (map reads (registers_of (operand_address x b i d))) (mask_steps (mask_for x m))
          ∙ ap₂ ◌++◌ (read_only (registers_of (operand_address x b i d))) (read_only (mask_registers (mask_for x m)))
      by false = append-nil (access_needs (segment_of x b) (operand_address x b i d))

  write_needs : (s : Shape) → each step_needs (write_part x s) ≡ shape_needs x s
  unfolding write_part shape_needs step_needs each
  write_needs Nothing = refl
  write_needs (Register i false) = refl
  write_needs (Register i true) =
      each_append step_needs (mask_steps x.mask) (writes (reg_at x i) ∷ []) ∙ ap (λ (l : List ℕ). l ++ []) (read_only (mask_registers x.mask))
  write_needs Fourth = refl
  write_needs Immediate = refl
  write_needs (Memory b i d m) = append-nil (access_needs (segment_of x b) (operand_address x b i d))

  loaded : (r lea : Bool) (ks : List ℕ) → cond r (cond lea [] ks) [] ≡ cond (r && not lea) ks []
  loaded true true ks = refl
  loaded true false ks = refl
  loaded false lea ks = refl

  operand_needs_lem : (o : Operand) → each step_needs (operand_steps x o) ≡ operand_needs x o
  unfolding operand_steps operand_needs
  operand_needs_lem o =
      each_segments step_needs
      (cond (reading o.access) (read_part x o.shape) [] ∷ cond (writing o.access) (write_part x o.shape) [] ∷ [])
      ∙ rw (
        each_cond step_needs (reading o.access) (read_part x o.shape),
        each_cond step_needs (writing o.access) (write_part x o.shape),
        read_needs o.shape,
        write_needs o.shape,
        loaded (reading o.access) (is_lea x) (shape_needs x o.shape),
      )

  -- an entry of its implicit list
  entry_needs_lem : (e : Entry) → each step_needs (entry_steps x e) ≡ entry_needs e
  unfolding entry_steps implicit_step entry_needs form_needs step_needs access_needs segment_registers registers_of term_registers each
  entry_needs_lem (entries.Operand (implied.Register y) Read) = refl
  entry_needs_lem (entries.Operand (implied.Register y) Write) = refl
  entry_needs_lem (entries.Operand (implied.MemDeref y) w) = append-nil (slots_of y ++ []) ∙ append-nil (slots_of y)
  entry_needs_lem (entries.Operand (implied.Disp y n) w) = append-nil (slots_of y ++ []) ∙ append-nil (slots_of y)
  entry_needs_lem (entries.Operand (implied.MemBaseIndexScale y z k) w) = append-nil (slots_of y ++ (slots_of z ++ []))
  entry_needs_lem (entries.Slot i w) = moved_only w (slot_registers x i)

  flags_need : (a : ℕ) → each step_needs (flag_steps a) ≡ []
  unfolding flag_steps flat each step_needs
  flags_need a = by (reading a) (writing a)
    where
      by : (r w : Bool) → each step_needs (flat (cond r (reads rflags ∷ []) [] ∷ cond w (writes rflags ∷ []) [] ∷ [])) ≡ []
      by true true = refl
      by true false = refl
      by false true = refl
      by false false = refl

  pub record_needs : each step_needs (steps_of x) ≡ list_needs x.digest.extra ++ each (operand_needs x) (operands_of x)
  unfolding steps_of list_needs flat
  record_needs =
      each_segments step_needs
      (each (entry_steps x) (implicit_of x.digest.extra) ∷ flag_steps (flags_access x.digest) ∷ each (operand_steps x) (operands_of x) ∷ [])
      ∙ rw (
        each_each step_needs (entry_steps x) (implicit_of x.digest.extra),
        each_same (λ (e : Entry). each step_needs (entry_steps x e)) entry_needs entry_needs_lem (implicit_of x.digest.extra),
        flags_need (flags_access x.digest),
        each_each step_needs (operand_steps x) (operands_of x),
        each_same (λ (o : Operand). each step_needs (operand_steps x o)) (operand_needs x) operand_needs_lem (operands_of x),
        append-nil (each (operand_needs x) (operands_of x)),
      )

-- What the code joins where it tests whether a read is memory's
module _ (x : Record) (read : Bool) (ks : List ℕ) where
  pub is_loaded : read ≡ true → (x.opcode ≡ 28 → ⊥) → cond (loads_at x read) ks [] ≡ ks
  is_loaded e ne = rw (e, ne_eqb x.opcode 28 ne)

  pub lea_loads : x.opcode ≡ 28 → cond (loads_at x read) ks [] ≡ []
  lea_loads e = rw (eq-eqb x.opcode 28 e) (by read)
    where
      by : (r : Bool) → cond (r && false) ks [] ≡ []
      by true = refl
      by false = refl

  pub not_loaded : read ≡ false → cond (loads_at x read) ks [] ≡ []
  not_loaded e = rw e

-- What the code joins, part by part
module _ (set : ℕ) (x : Record) {r t : ℕ} where
  pub access_joined :
      (s : Shape) {g q : ℕ} {b i : Term}
      → g ≡ shape_segment x s → b ≡ base_of x (shape_base s) → i ≡ index_of x (shape_index s)
      → q ≡ joined set (each slots_of (segment_registers g)) → r ≡ joined q (each slots_of (term_registers b))
      → t ≡ joined r (each slots_of (term_registers i))
      → t ≡ joined set (shape_needs x s)
  access_joined s {g} {q} {b} {i} c e f p k h =
      rw (
        shape_needs_lem x s,
        ← c,
        ← e,
        ← f,
        joined_append set (each slots_of (segment_registers g)) (each slots_of (term_registers b) ++ each slots_of (term_registers i)),
        ← p,
        joined_append q (each slots_of (term_registers b)) (each slots_of (term_registers i)),
        ← k,
      ) h

  pub operand_joined :
      (o : Operand) {load store : Bool}
      → load ≡ loads_at x (reading o.access) → store ≡ writing o.access
      → r ≡ joined set (cond load (shape_needs x o.shape) []) → t ≡ joined r (cond store (shape_needs x o.shape) [])
      → t ≡ joined set (operand_needs x o)
  unfolding operand_needs flat
  operand_joined o {load} {store} e f g h =
      rw (
        ← e,
        ← f,
        append-nil (cond store (shape_needs x o.shape) []),
        joined_append set (cond load (shape_needs x o.shape) []) (cond store (shape_needs x o.shape) []),
        ← g,
      ) h

-- and operand by operand, from operand i on
module _ (x : Record) (i set : ℕ) where
  pub none_left : length (operands_of x) ≤ i → set ≡ joined set (each (operand_needs x) (drop i (operands_of x)))
  unfolding each joined
  none_left h = rw (drop_of_length-le (operands_of x) {i = i} h)

  pub one_joined :
      {r : ℕ} → i < length (operands_of x) → r ≡ joined set (operand_needs x (operand_at x i))
      → joined r (each (operand_needs x) (drop (i + 1) (operands_of x))) ≡ joined set (each (operand_needs x) (drop i (operands_of x)))
  unfolding each
  one_joined h e =
      rw (operand_step x i h, joined_append set (operand_needs x (operand_at x i)) (each (operand_needs x) (drop (i + 1) (operands_of x))), e)
