-- A step of the walk takes the first of the items that are left, and leaves the others. Assumes nothing.
use Rattle.std.specs.Prelude.{Option, None, Some}
use Prim.Native.Nat.{ℕ, zero, suc, ◌+◌, ◌-◌, ◌≤◌, ◌<◌}
use native.Mathlib.Omega.{arith}
use borrow.Author.Tests.{ne_eqb, eq-eqb}
use mathlib.Core.Path.{◌≡◌, refl, sym, ap, ◌∙◌}
use mathlib.Core.Logic.{◌⊎◌, ⊎_elim}
use mathlib.Core.Bool.{Bool, true, false, cond}
use mathlib.Core.List.{List, [], ◌∷◌, ◌++◌, append-nil}
use lib.Dec.{eqb}
use lib.ListN.{length, get_or, take, drop, length-take, drop_of_length-le}
use lib.Seq.{drop-cons, drop-drop, get_or-take}
use Rattle.laws.specs.Lists.{each, flat}
use Rattle.std.proofs.lemmas.Bool.{cond_both}
use Rattle.access.specs.Accesses.{access_number, access_of}
use Rattle.access.specs.declared.Access.{Access}
use Rattle.digest.proofs.Laws.{flags_number}
use Rattle.digest.specs.Digests.{flags_access}
use Rattle.implicit.specs.Lists.{entry_at, rdi}
use Rattle.implicit.specs.Ways.{access_by}
use Rattle.implicit.specs.declared.Way.{Way}
use Rattle.implicit.specs.declared.Way.TheVariants.{Read, Write}
use Rattle.implicit.specs.declared.ImplicitOperand.{ImplicitOperand}
use Rattle.implicit.specs.declared.ImplicitOperand.TheVariants.{MemDeref}
use Rattle.implicit.specs.declared.Entry.{Entry}
use Rattle.implicit.specs.declared.Entry.TheVariants.{Operand, Slot}
use Rattle.implicit.proofs.Laws.{step, stop, below_four}
use Rattle.record.specs.declared.Record.{Record}
use Rattle.definition.specs.declared.Item.{Item}
use Rattle.definition.specs.declared.Item.TheVariants.{Flags, Implicit}
use Rattle.definition.specs.Listings.{way_access, entry_items, explicit_at, flag_items, items_of}
use Rattle.listing.specs.declared.AccessIter.{AccessIter}
use Rattle.listing.specs.Cursors.{Step, items_at, place, explicit_items, implicit_items, items_from, first_in, explicit_next, implicit_next, flags_next, next_of, items_by}

-- all items are left at the first place
pub at_first : (x : Record) → items_from x (place false 0) ≡ items_of x
unfolding items_from
at_first x = refl

-- The explicit operands
module _ (x : Record) (i : ℕ) where
  explicit_left : drop i (explicit_items x) ≡ items_by x (explicit_next x i)
  unfolding items_from explicit_next
  explicit_left = go (drop i (explicit_items x)) (drop-drop 1 i (explicit_items x))
    where
      go : (is : List Item) → drop 1 is ≡ drop (i + 1) (explicit_items x) → is ≡ items_by x (first_in is (place true (i + 1)) None)
      go [] e = refl
      go (o ∷ os) e = ap (λ (l : List Item). o ∷ l) e

-- The implicit list
module _ (x : Record) (i : ℕ) where
  implicit_at : {k : ℕ} → k ≡ i + 1 → items_from x (place false k) ≡ implicit_items x i ++ explicit_items x
  unfolding items_from
  implicit_at {k} e =
      let z : k - 1 ≡ i = omega arith in
      rw (ne_eqb k 0 (λ z. omega arith), z)

module _ (x : Record) (i : ℕ) where
  entry_here :
      {e : Entry} {item : Item} → entry_at x.digest.extra i ≡ Some e → entry_items e ≡ item ∷ []
      → implicit_items x i ++ explicit_items x ≡ item ∷ items_from x (place false (i + 2))
  unfolding implicit_items each
  entry_here p r =
      let behind = implicit_at x (i + 1) {k = i + 2} (omega arith) in
      rw (step x.digest.extra i p, r, behind)

  entry_none : entry_at x.digest.extra i ≡ None → implicit_items x i ++ explicit_items x ≡ explicit_items x
  unfolding implicit_items each
  entry_none p = rw (stop x.digest.extra i p)

  entry_left :
      (e : Option Entry) → entry_at x.digest.extra i ≡ e
      → implicit_items x i ++ explicit_items x ≡ items_by x (first_in (items_at e) (place false (i + 2)) (explicit_next x 0))
  unfolding entry_items
  entry_left (Some (Operand o w)) p = entry_here p refl
  entry_left (Some (Slot n w)) p = entry_here p refl
  entry_left None p = entry_none p ∙ explicit_left x 0

  implicit_left : implicit_items x i ++ explicit_items x ≡ items_by x (implicit_next x i)
  unfolding implicit_next
  implicit_left = entry_left (entry_at x.digest.extra i) refl

-- The flags
in_order : (x : Record) → items_of x ≡ flag_items (flags_access x.digest) ++ (implicit_items x 0 ++ explicit_items x)
unfolding items_of flat implicit_items explicit_items
in_order x = simp append-nil

flags_left : (x : Record) → items_of x ≡ items_by x (flags_next x)
unfolding flags_next flag_items
flags_left x =
    in_order x
    ∙ cond_both (eqb (flags_access x.digest) 0) [] (Flags (access_of (flags_access x.digest)) ∷ []) (λ (is : List Item). is ++ (implicit_items x 0 ++ explicit_items x) ≡ items_by x (first_in is (place false 1) (implicit_next x 0)))
    (λ h. implicit_left x 0)
    (λ h. ap (λ (l : List Item). Flags (access_of (flags_access x.digest)) ∷ l) (sym (implicit_at x 0 {k = 1} refl)))

-- a step from any place
pub walks : (x : Record) (c : AccessIter) → items_from x c ≡ items_by x (next_of x c)
unfolding next_of items_from
walks x c = by c.explicit (eqb c.next 0)
  where
    by : (e z : Bool) → cond e (drop c.next (explicit_items x)) (cond z (items_of x) (implicit_items x (c.next - 1) ++ explicit_items x)) ≡ items_by x (cond e (explicit_next x c.next) (cond z (flags_next x) (implicit_next x (c.next - 1))))
    by true z = explicit_left x c.next
    by false true = flags_left x
    by false false = implicit_left x (c.next - 1)

-- What code finds, place by place
module _ (x : Record) (i : ℕ) where
  four_at : {A : Type 0} (f : ℕ → A) (d : A) (k : ℕ) → k < 4 → get_or (f 0 ∷ f 1 ∷ f 2 ∷ f 3 ∷ []) k d ≡ f k
  four_at f d zero h = refl
  four_at f d (suc zero) h = refl
  four_at f d (suc (suc zero)) h = refl
  four_at f d (suc (suc (suc zero))) h = refl
  four_at f d (suc (suc (suc (suc k)))) h = absurd (omega arith)

  pub operand_here : {o : Item} → i < x.count → i < 4 → o ≡ explicit_at x i → Some (o, place true (i + 1)) ≡ explicit_next x i
  unfolding explicit_next explicit_items
  operand_here h k e =
      let d = explicit_at x i in
      let four = explicit_at x 0 ∷ explicit_at x 1 ∷ explicit_at x 2 ∷ explicit_at x 3 ∷ [] in
      let inside : i < length (take x.count four) = simp length-take (omega arith) in
      rw (e, drop-cons (take x.count four) i d inside, get_or-take x.count four i d h, four_at (explicit_at x) d i k)

  pub operand_none : (x.count ≤ i) ⊎ (4 ≤ i) → None ≡ explicit_next x i
  unfolding explicit_next explicit_items
  operand_none h =
      let four = explicit_at x 0 ∷ explicit_at x 1 ∷ explicit_at x 2 ∷ explicit_at x 3 ∷ [] in
      let past : length (take x.count four) ≤ i = simp length-take (⊎_elim (λ a. omega arith) (λ a. omega arith) h) in
      rw (drop_of_length-le (take x.count four) past)

  -- an entry of the implicit list: it is one of four, and its item is what is found
  module _ {e : Option Entry} (q : e ≡ entry_at x.digest.extra i) where
    pub entry_below : {v : Entry} → e ≡ Some v → i < 4
    entry_below p = below_four x.digest.extra i (sym q ∙ p)

    module _ {v : Entry} (p : e ≡ Some v) where
      pub operand_found :
          {o : ImplicitOperand} {w : Way} {r : Step} → v ≡ Operand o w → r ≡ Some (Implicit o (way_access w), place false (i + 2)) → r ≡ implicit_next x i
      unfolding implicit_next entry_items
      operand_found k f = rw (← q, p, k) f

      pub slot_found :
          {n : ℕ} {w : Way} {r : Step} → v ≡ Slot n w → r ≡ Some (Implicit (MemDeref rdi) (way_access w), place false (i + 2)) → r ≡ implicit_next x i
      unfolding implicit_next entry_items
      slot_found k f = rw (← q, p, k) f

    pub entry_over : {r : Step} → e ≡ None → r ≡ explicit_next x 0 → r ≡ implicit_next x i
    unfolding implicit_next
    entry_over p f = rw (← q, p) f

-- a way is one access, however it is said
pub by_way : (w : Way) → access_by w ≡ way_access w
by_way Read = refl
by_way Write = refl

-- the flags
module _ (x : Record) {a : Access} (e : a ≡ access_of (flags_access x.digest)) {n : ℕ} (k : n ≡ access_number a) where
  number : n ≡ flags_access x.digest
  number = k ∙ flags_number x.digest e

  pub flags_found : (n ≡ 0 → ⊥) → Some (Flags a, place false 1) ≡ flags_next x
  unfolding flags_next flag_items
  flags_found ne = rw (ne_eqb (flags_access x.digest) 0 (λ z. ne (number ∙ z)), e)

  pub flags_none : {r : Step} → n ≡ 0 → r ≡ implicit_next x 0 → r ≡ flags_next x
  unfolding flags_next flag_items
  flags_none z f = rw (eq-eqb (flags_access x.digest) 0 (sym number ∙ z)) f

-- the places
module _ (x : Record) (c : AccessIter) {r : Step} where
  pub at_explicit : c.explicit ≡ true → r ≡ explicit_next x c.next → r ≡ next_of x c
  unfolding next_of
  at_explicit e f = rw e f

  pub at_flags : c.explicit ≡ false → c.next ≡ 0 → r ≡ flags_next x → r ≡ next_of x c
  unfolding next_of
  at_flags e z f = rw (e, eq-eqb c.next 0 z) f

  pub at_implicit : c.explicit ≡ false → (c.next ≡ 0 → ⊥) → r ≡ implicit_next x (c.next - 1) → r ≡ next_of x c
  unfolding next_of
  at_implicit e z f = rw (e, ne_eqb c.next 0 z) f

  -- what the next answer says of the items that were left
  left_by_lem : r ≡ next_of x c → items_from x c ≡ items_by x r
  left_by_lem e = walks x c ∙ ap (items_by x) (sym e)

  module _ (e : r ≡ next_of x c) where
    pub found_left : {o : Item} {d : AccessIter} → r ≡ Some (o, d) → items_from x c ≡ o ∷ items_from x d
    found_left f = left_by_lem e ∙ ap (items_by x) f

    pub none_left : r ≡ None → items_from x c ≡ []
    none_left f = left_by_lem e ∙ ap (items_by x) f
