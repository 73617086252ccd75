-- Two lists of events: which events are the same, and what the common front leaves of each. Assumes nothing.
use Prim.Native.Nat.{ℕ}
use native.Mathlib.Omega.{arith}
use borrow.Author.Tests.{eqb-true, eq-eqb, lt-ltb}
use mathlib.Core.Path.{◌≡◌, refl, sym, ap, ap₂, ◌∙◌}
use mathlib.Core.List.{List, [], ◌∷◌, ◌++◌}
use mathlib.Core.Bool.{Bool, true, false, cond, ◌&&◌, ◌||◌}
use lib.ListN.{length, get_or, drop}
use lib.Dec.{eqb, ltb}
use Rattle.std.proofs.lemmas.Bool.{and_parts}
use Rattle.registers.specs.Banks.{reg}
use Rattle.definition.specs.declared.Event.{Event}
use Rattle.definition.specs.declared.Event.TheVariants.{RegisterRead, RegisterWrite, MemoryRead, MemoryWrite, UnknownRead, UnknownWrite}
use Rattle.difference.specs.Partings.{kind_in, first_in, second_in, same_event, front_of, left_of, rest_of}
use Rattle.difference.specs.Promises.{Apart}

-- an event from its kind and its numbers
unfoldable event_from : ℕ → ℕ → ℕ → Event
event_from k x y =
    get_or (UnknownRead 0 ∷ RegisterRead (reg x y) ∷ RegisterWrite (reg x y) ∷ MemoryRead x y ∷ MemoryWrite x y ∷ UnknownRead x ∷ UnknownWrite x ∷ []) k (UnknownRead 0)

again : (e : Event) → event_from (kind_in e) (first_in e) (second_in e) ≡ e
unfolding event_from
again (RegisterRead y) = refl
again (RegisterWrite y) = refl
again (MemoryRead a n) = refl
again (MemoryWrite a n) = refl
again (UnknownRead n) = refl
again (UnknownWrite n) = refl

pub same_is : (d e : Event) → same_event d e ≡ true → d ≡ e
unfolding same_event
same_is d e h =
    let k : kind_in d ≡ kind_in e = eqb-true (kind_in d) (kind_in e) ((and_parts _ _ ((and_parts _ _ h).0)).0) in
    let x : first_in d ≡ first_in e = eqb-true (first_in d) (first_in e) ((and_parts (eqb (kind_in d) (kind_in e)) _ ((and_parts _ _ h).0)).1) in
    let y : second_in d ≡ second_in e = eqb-true (second_in d) (second_in e) ((and_parts (eqb (kind_in d) (kind_in e) && eqb (first_in d) (first_in e)) _ h).1) in
    sym (again d) ∙ rw (k, x, y) (again e)

pub same_self : (e : Event) → same_event e e ≡ true
unfolding same_event
same_self e = rw (eq-eqb (kind_in e) (kind_in e) refl, eq-eqb (first_in e) (first_in e) refl, eq-eqb (second_in e) (second_in e) refl)

no_false : true ≡ false → ⊥
no_false e = let z : ◌≡◌ {A = ℕ} 0 1 = cc in omega arith

apart : (d e : Event) → same_event d e ≡ false → d ≡ e → ⊥
apart d e h q = no_false (sym (same_self d) ∙ ap (same_event d) q ∙ h)

pub not_same : (d e : Event) → (d ≡ e → ⊥) → same_event d e ≡ false
not_same d e differ = told (same_event d e) refl
  where
    told : (t : Bool) → same_event d e ≡ t → t ≡ false
    told true h = absurd (differ (same_is d e h))
    told false h = refl

-- what a comparison answers
pub same_when : (d e : Event) (t : Bool) → ((t ≡ true → d ≡ e) × (d ≡ e → t ≡ true)) → t ≡ same_event d e
same_when d e true h = sym (ap (same_event d) (sym (h.0 refl)) ∙ same_self d)
same_when d e false h = sym (not_same d e (λ q. no_false (sym (h.1 q))))

pub no_cons : (x : Event) (xs : List Event) → x ∷ xs ≡ [] → ⊥
no_cons x xs e = let z = ap length e in omega arith

head_is : (x y : Event) (xs ys : List Event) → x ∷ xs ≡ y ∷ ys → x ≡ y
head_is x y xs ys e = cc

tail_is : (x y : Event) (xs ys : List Event) → x ∷ xs ≡ y ∷ ys → xs ≡ ys
tail_is x y xs ys e = cc

-- something is left of either
abbrev sign : List Event → List Event → Bool
sign left rest = ltb 0 (length left) || ltb 0 (length rest)

some_left : (x : Event) (xs ys : List Event) → sign (x ∷ xs) ys ≡ false → ⊥
some_left x xs ys h = no_false (sym (ap (λ (t : Bool). t || ltb 0 (length ys)) (lt-ltb 0 (length (x ∷ xs)) (omega arith))) ∙ h)

some_rest : (y : Event) (ys : List Event) → sign [] (y ∷ ys) ≡ false → ⊥
some_rest y ys h = no_false (sym (lt-ltb 0 (length (y ∷ ys)) (omega arith)) ∙ h)

-- the common front of two lists, and what is left
pub record Split (xs ys front left rest : List Event) : Type 0 where
  pub first : xs ≡ front ++ left
  pub second : ys ≡ front ++ rest
  pub apart : Apart left rest
  pub to : sign left rest ≡ false → xs ≡ ys
  pub back : xs ≡ ys → sign left rest ≡ false

split_cons :
    (x y : Event) (xs ys front : List Event) (t : Bool) → same_event x y ≡ t → Split xs ys front (drop (length front) xs) (drop (length front) ys)
    → let both = cond t (y ∷ front) [] in Split (x ∷ xs) (y ∷ ys) both (drop (length both) (x ∷ xs)) (drop (length both) (y ∷ ys))
split_cons x y xs ys front true e s =
    record {
      first = ap₂ ◌∷◌ (same_is x y e) s.first;
      second = ap (◌∷◌ y) s.second;
      apart = s.apart;
      to = λ h. ap₂ ◌∷◌ (same_is x y e) (s.to h);
      back = λ h. s.back (tail_is x y xs ys h);
    }
split_cons x y xs ys front false e s =
    record {
      first = refl;
      second = refl;
      apart = apart x y e;
      to = λ h. absurd (some_left x xs (y ∷ ys) h);
      back = λ h. absurd (apart x y e (head_is x y xs ys h));
    }

split_by : (xs ys : List Event) → Split xs ys (front_of xs ys) (drop (length (front_of xs ys)) xs) (drop (length (front_of xs ys)) ys)
unfolding front_of
split_by [] [] = record { first = refl; second = refl; apart = tt; to = λ h. refl; back = λ h. refl }
split_by [] (y ∷ ys) = record { first = refl; second = refl; apart = tt; to = λ h. absurd (some_rest y ys h); back = λ h. absurd (no_cons y ys (sym h)) }
split_by (x ∷ xs) [] = record { first = refl; second = refl; apart = tt; to = λ h. absurd (some_left x xs [] h); back = λ h. absurd (no_cons x xs h) }
split_by (x ∷ xs) (y ∷ ys) = split_cons x y xs ys (front_of xs ys) (same_event x y) refl (split_by xs ys)

pub split : (xs ys : List Event) → Split xs ys (front_of xs ys) (left_of xs ys) (rest_of xs ys)
unfolding left_of rest_of
split xs ys = split_by xs ys
