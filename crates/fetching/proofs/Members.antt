-- Numbers of a list by their place and by a test, and the needs of records among them. Assumes nothing.
use Prim.Native.Nat.{ℕ, ◌<◌}
use native.Mathlib.Omega.{arith}
use mathlib.Core.Path.{◌≡◌, refl}
use mathlib.Core.Logic.{⊎_elim, ◌⊎◌, inl, inr}
use mathlib.Core.List.Memᴰ
use mathlib.Core.List.{List, [], ◌∷◌, ◌++◌, Memᴰ}
use mathlib.Core.Bool.{Bool, true, false, cond, ◌&&◌, ◌||◌}
use lib.Dec.{ltb, eqb}
use borrow.Author.Tests.{ltb-true, eqb-true, eqb-false}
use Rattle.laws.specs.Words.{bit}
use Rattle.laws.specs.Lists.{each}
use Rattle.laws.specs.Tests.{any, is_in}
use Rattle.std.proofs.lemmas.Bool.{and_parts}
use Rattle.laws.proofs.Every.{Every}
use Rattle.registers.specs.Files.{part_of}
use Rattle.registers.specs.declared.RegSpec.{RegSpec}
use Rattle.definition.specs.Addresses.{registers_of, segment_registers}
use Rattle.definition.specs.Steps.{Step, reads, writes, touches, steps_of}
use Rattle.definition.specs.Visits.{fixed_record}
use Rattle.fetching.specs.Needs.{held_registers, slots_of, access_needs, step_needs, refusal_alone, needs_of}
use Rattle.fetching.specs.Judging.{all_in}

pub both : (a b : Bool) → a ≡ true → b ≡ true → (a && b) ≡ true
both a b e f = rw (e, f)

-- a number of a list, by the test and by its place
pub in_true : (k : ℕ) (ks : List ℕ) → is_in k ks ≡ true → Memᴰ k ks
unfolding is_in any
in_true k [] e = absurd (let q : ◌≡◌ {A = ℕ} 0 1 = cc in omega arith)
in_true k (j ∷ ks) e = go (λ h. in_true k ks h) (eqb k j) refl e
  where
    go : (is_in k ks ≡ true → Memᴰ k ks) → (t : Bool) → eqb k j ≡ t → (t || is_in k ks) ≡ true → Memᴰ k (j ∷ ks)
    go f true h e = Memᴰ.head (eqb-true k j h)
    go f false h e = Memᴰ.tail (f e)

pub true_in : (k : ℕ) (ks : List ℕ) → Memᴰ k ks → is_in k ks ≡ true
unfolding is_in any
true_in k [] m = absurd (Memᴰ.not-nil m)
true_in k (j ∷ ks) m = go (λ h. true_in k ks h) (eqb k j) refl (Memᴰ.cases_cons m)
  where
    go : (Memᴰ k ks → is_in k ks ≡ true) → (t : Bool) → eqb k j ≡ t → (k ≡ j) ⊎ Memᴰ k ks → (t || is_in k ks) ≡ true
    go f true h c = refl
    go f false h (inl e) = absurd (eqb-false k j h e)
    go f false h (inr m) = f m

-- all of a list, by the test and one by one
pub all_mem : (v : ℕ) (ks : List ℕ) → all_in v ks ≡ true → (k : ℕ) → Memᴰ k ks → bit v k ≡ true
unfolding all_in
all_mem v [] e k m = absurd (Memᴰ.not-nil m)
all_mem v (j ∷ ks) e k m =
    ⊎_elim (λ h. rw h ((and_parts (bit v j) (all_in v ks) e).0)) (λ h. all_mem v ks ((and_parts (bit v j) (all_in v ks) e).1) k h) (Memᴰ.cases_cons m)

pub mem_all : (v : ℕ) (ks : List ℕ) → ((k : ℕ) → Memᴰ k ks → bit v k ≡ true) → all_in v ks ≡ true
unfolding all_in
mem_all v [] h = refl
mem_all v (j ∷ ks) h = both (bit v j) (all_in v ks) (h j (Memᴰ.head refl)) (mem_all v ks (λ k m. h k (Memᴰ.tail m)))

-- one that is not
pub all_false : (v : ℕ) (ks : List ℕ) → all_in v ks ≡ false → (k : ℕ) × Memᴰ k ks × (bit v k ≡ false)
unfolding all_in
all_false v [] e = absurd (let q : ◌≡◌ {A = ℕ} 0 1 = cc in omega arith)
all_false v (j ∷ ks) e = go (λ h. all_false v ks h) (bit v j) refl e
  where
    go :
        (all_in v ks ≡ false → (k : ℕ) × Memᴰ k ks × (bit v k ≡ false))
        → (t : Bool) → bit v j ≡ t → (t && all_in v ks) ≡ false → (k : ℕ) × Memᴰ k (j ∷ ks) × (bit v k ≡ false)
    go f true h e = let r = f e in (r.0, Memᴰ.tail r.1, r.2)
    go f false h e = (j, Memᴰ.head refl, h)

pub all_append : (v : ℕ) (xs ys : List ℕ) → all_in v (xs ++ ys) ≡ (all_in v xs && all_in v ys)
unfolding all_in
all_append v [] ys = refl
all_append v (x ∷ xs) ys = rw (all_append v xs ys) (go (bit v x))
  where
    go : (t : Bool) → (t && (all_in v xs && all_in v ys)) ≡ (t && all_in v xs && all_in v ys)
    go true = refl
    go false = refl

-- members of what each gives
pub mem_each : {A B : Type 0} (f : A → List B) (xs : List A) (b : B) → Memᴰ b (each f xs) → (a : A) × Memᴰ a xs × Memᴰ b (f a)
unfolding each
mem_each f [] b m = absurd (Memᴰ.not-nil m)
mem_each f (x ∷ xs) b m =
    ⊎_elim (λ h. (x, Memᴰ.head refl, h)) (λ h. let r = mem_each f xs b h in (r.0, Memᴰ.tail r.1, r.2))
    (Memᴰ.append_cases (f x) m)

pub each_mem : {A B : Type 0} (f : A → List B) (xs : List A) (a : A) (b : B) → Memᴰ a xs → Memᴰ b (f a) → Memᴰ b (each f xs)
unfolding each
each_mem f [] a b m n = absurd (Memᴰ.not-nil m)
each_mem {A} {B} f (x ∷ xs) a b m n =
    ⊎_elim
    (λ (e : a ≡ x). Memᴰ.append_left (each f xs) (rw e at n))
    (λ h. Memᴰ.append_right (f x) (each_mem f xs a b h n))
    (Memᴰ.cases_cons m)

-- a need of a register, of a step and of a record is a register of the file
pub slot_is : (y : RegSpec) (k : ℕ) → Memᴰ k (slots_of y) → (k < held_registers) × (k ≡ (part_of y).slot)
unfolding slots_of
slot_is y k m = go (ltb (part_of y).slot held_registers) refl m
  where
    go :
        (t : Bool) → ltb (part_of y).slot held_registers ≡ t → Memᴰ k (cond t ((part_of y).slot ∷ []) [])
        → (k < held_registers) × (k ≡ (part_of y).slot)
    go true e m =
        ⊎_elim (λ (h : k ≡ (part_of y).slot). (rw h (ltb-true (part_of y).slot held_registers e), h)) (λ h. absurd (Memᴰ.not-nil h)) (Memᴰ.cases_cons m)
    go false e m = absurd (Memᴰ.not-nil m)

step_low : (s : Step) (k : ℕ) → Memᴰ k (step_needs s) → k < held_registers
unfolding step_needs access_needs
step_low (reads y) k m = absurd (Memᴰ.not-nil m)
step_low (writes y) k m = absurd (Memᴰ.not-nil m)
step_low (touches w s a x n) k m = let r = mem_each slots_of (segment_registers s ++ registers_of a) k m in (slot_is r.0 k r.2).0

pub needs_in : (b : List ℕ) (k : ℕ) → Memᴰ k (needs_of b) → (refusal_alone b ≡ 0) × Memᴰ k (each step_needs (steps_of (fixed_record b)))
unfolding needs_of
needs_in b k m = go (eqb (refusal_alone b) 0) refl m
  where
    go :
        (t : Bool) → eqb (refusal_alone b) 0 ≡ t → Memᴰ k (cond t (each step_needs (steps_of (fixed_record b))) [])
        → (refusal_alone b ≡ 0) × Memᴰ k (each step_needs (steps_of (fixed_record b)))
    go true e m = (eqb-true (refusal_alone b) 0 e, m)
    go false e m = absurd (Memᴰ.not-nil m)

pub need_low : (b : List ℕ) (k : ℕ) → Memᴰ k (needs_of b) → k < held_registers
need_low b k m =
    let r = mem_each step_needs (steps_of (fixed_record b)) k (needs_in b k m).1 in step_low r.0 k r.2

pub every_mem : (P : ℕ → Type 0) (ks : List ℕ) → ((k : ℕ) → Memᴰ k ks → P k) → Every P ks
every_mem P [] h = tt
every_mem P (k ∷ ks) h = (h k (Memᴰ.head refl), every_mem P ks (λ j m. h j (Memᴰ.tail m)))
