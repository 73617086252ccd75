-- The laws of `Logged`: nothing written, one segment more through the part that is lent on, and the room that is left. They hold
-- for the bytes of anything: events of a log, steps of a visit, items of a listing. Assumes nothing.
use Prim.Native.Nat.{ℕ, suc, ◌+◌, ◌-◌, ◌^◌, ◌≤◌, ◌<◌}
use native.Mathlib.Nat.{le_refl}
use native.Mathlib.Numerals.{add-one}
use native.Mathlib.Omega.{arith}
use mathlib.Core.Path.{◌≡◌, refl, sym, ap, ◌∙◌}
use mathlib.Core.List.{List, [], ◌∷◌, ◌++◌, append_assoc, append-nil}
use lib.ListN.{length, take, drop, set, get_or, length-append, length-drop, drop_of_length-le}
use lib.Seq.{take_all, take_at, drop_at, drop-cons, drop-drop, set_at, append_snoc}
use mir.Val.{Fits}
use mir.Syntax.{w64}
use Rattle.laws.specs.Lists.{each, flat}
use Rattle.laws.specs.Lending.{size, Logged, splice}
use Rattle.laws.proofs.Lists.{each_append}

-- the part of `mid` from n on, as the lender hands it over
abbrev pub part : List ℕ → ℕ → List ℕ
part mid n = take (length mid - n) (drop n mid)

-- `mid` once its part from n on has come back as `ys`
abbrev pub back : List ℕ → ℕ → List ℕ → List ℕ
back mid n ys = take n mid ++ (ys ++ drop (length mid - n) (drop n mid))

pub part_is : (mid : List ℕ) (n : ℕ) → part mid n ≡ drop n mid
part_is mid n = take_all (length mid - n) (drop n mid) (simp length-drop (le_refl _))

pub part_length : (mid : List ℕ) (n : ℕ) → length (part mid n) ≡ length mid - n
part_length mid n = ap length (part_is mid n) ∙ length-drop n mid

pub back_is : (mid : List ℕ) (n : ℕ) (ys : List ℕ) → back mid n ys ≡ take n mid ++ ys
back_is mid n ys =
    simp (drop_of_length-le (drop n mid) {i = length mid - n} (simp length-drop (le_refl _)), append-nil)

-- bytes laid at the front, then more at the front of the part behind them: as if laid at once
pub laid :
    (xs ys old : List ℕ) {mid new : List ℕ} {m : ℕ} (n : ℕ)
    → length xs ≡ m → mid ≡ xs ++ drop m old → new ≡ ys ++ drop n (part mid m) → back mid m new ≡ (xs ++ ys) ++ drop (m + n) old
laid xs ys old {mid} {new} {m} n long a b =
    let front : take m mid ≡ xs = rw a (take_at xs (drop m old) m long) in
    let rest : drop m mid ≡ drop m old = rw a (drop_at xs (drop m old) m long) in
    back_is mid m new
    ∙ rw (front, b, part_is mid m, rest, drop-drop n m old, append_assoc xs ys (drop (m + n) old))

-- bytes that have room leave the buffer as long as it was
pub laid_length : (xs old : List ℕ) {m : ℕ} → length xs ≡ m → m ≤ length old → length (xs ++ drop m old) ≡ length old
laid_length xs old {m} long h = simp (length-append, length-drop, long) (omega arith)

-- one byte more, stored behind those that are laid
pub stored : (xs old : List ℕ) (v : ℕ) {m : ℕ} → length xs ≡ m → m < length old → set (xs ++ drop m old) m v ≡ (xs ++ (v ∷ [])) ++ drop (m + 1) old
stored xs old v {m} long h = rw (drop-cons old m 0 h, set_at xs (get_or old m 0) (drop (suc m) old) v m long, add-one m, append_snoc xs v (drop (suc m) old))

module _ {A : Type 0} (enc : A → List ℕ) where
  pub size_append : (xs ys : List A) → size enc (xs ++ ys) ≡ size enc xs + size enc ys
  unfolding size
  size_append xs ys = ap length (each_append enc xs ys) ∙ length-append (each enc xs) (each enc ys)

  -- the bytes of segments one after the other
  unfoldable pub sizes : List (List A) → ℕ
  sizes [] = 0
  sizes (s ∷ ss) = size enc s + sizes ss

  pub size_flat : (ss : List (List A)) → size enc (flat ss) ≡ sizes ss
  unfolding size each flat sizes
  size_flat [] = refl
  size_flat (s ∷ ss) = size_append s (flat ss) ∙ ap (λ (n : ℕ). size enc s + n) (size_flat ss)

  -- the first segment has room in the whole
  pub fits_first : (seg : List A) (todo : List (List A)) {k : ℕ} → size enc (flat (seg ∷ todo)) ≤ k → size enc seg ≤ k
  unfolding flat
  fits_first seg todo {k} h = omega (arith, size_append seg (flat todo))

  -- nothing is written
  pub silent : (old : List ℕ) → Logged enc [] old old 0
  unfolding each
  silent old = record { count = refl; bytes = refl }

module _ {A : Type 0} {enc : A → List ℕ} where
  -- the things go on in the part that was lent on
  pub on :
      {xs ys : List A} {old mid new : List ℕ} {m n : ℕ}
      → Logged enc xs old mid m → Logged enc ys (part mid m) new n → Logged enc (xs ++ ys) old (back mid m new) (m + n)
  on {xs} {ys} {old} {mid} {new} {m} {n} a b =
      record {
        count = rw (each_append enc xs ys) (simp (length-append, a.count, b.count));
        bytes =
            rw (each_append enc xs ys, length-append (each enc xs) (each enc ys), ← a.count)
            (laid (each enc xs) (each enc ys) old (length (each enc ys)) (sym a.count) (rw (← a.count) at a.bytes) b.bytes);
      }

  -- a writer that had room leaves the buffer as long as it was
  pub same_long : {xs : List A} {old new : List ℕ} {n : ℕ} → Logged enc xs old new n → size enc xs ≤ length old → length new ≡ length old
  unfolding size
  same_long {xs} {old} a h = ap length a.bytes ∙ laid_length (each enc xs) old refl h

  -- the room for the rest, in the part that is lent on
  pub room :
      {xs : List A} {old mid : List ℕ} {m : ℕ} (k : ℕ)
      → Logged enc xs old mid m → size enc xs + k ≤ length old → k ≤ length (part mid m)
  unfolding size
  room {xs} {old} {mid} {m} k a h = omega (arith, a.count, part_length mid m, same_long a (omega arith))

-- A run of writes under way: of all the things some are written to the front of `old`, which is now `mid`, m bytes of it; `todo` are
-- the segments to come.
pub record Going {A : Type 0} (enc : A → List ℕ) (all : List A) (todo : List (List A)) (old mid : List ℕ) (m : ℕ) : Type 0 where
  pub done : List A
  pub rest : done ++ flat todo ≡ all
  pub logged : Logged enc done old mid m
  pub left : size enc all ≤ length old
  pub small : length old < 2 ^ 64

module _ {A : Type 0} {enc : A → List ℕ} where
  -- nothing yet
  pub start : (todo : List (List A)) (old : List ℕ) → size enc (flat todo) ≤ length old → length old < 2 ^ 64 → Going enc (flat todo) todo old old 0
  start todo old h k = record { done = []; rest = refl; logged = silent enc old; left = h; small = k }

  -- the first segment, written to the whole
  pub first :
      {seg : List A} {old mid : List ℕ} {n : ℕ} (todo : List (List A))
      → Logged enc seg old mid n → size enc (flat (seg ∷ todo)) ≤ length old → length old < 2 ^ 64 → Going enc (flat (seg ∷ todo)) todo old mid n
  unfolding flat
  first {seg} todo l h k = record { done = seg; rest = refl; logged = l; left = h; small = k }

  -- the next segment, written to the part that was lent on
  pub next :
      {all seg : List A} {todo : List (List A)} {old mid new : List ℕ} {m n : ℕ}
      → Going enc all (seg ∷ todo) old mid m → Logged enc seg (part mid m) new n → Going enc all todo old (back mid m new) (m + n)
  unfolding flat
  next {all} {seg} {todo} {old} g l =
      record {
        done = g.done ++ seg;
        rest = append_assoc g.done seg (flat todo) ∙ g.rest;
        logged = on g.logged l;
        left = g.left;
        small = g.small;
      }

  -- what is written and what is to come, in bytes
  bytes_of_lem :
      {all : List A} {todo : List (List A)} {old mid : List ℕ} {m : ℕ}
      → Going enc all todo old mid m → m + size enc (flat todo) ≤ length old
  unfolding size
  bytes_of_lem {all} {todo} {old} {mid} {m} g =
      omega (arith, g.left, g.logged.count, size_append enc g.done (flat todo), ap (size enc) g.rest)

  -- the buffer is as long as it was
  pub keeps :
      {all : List A} {todo : List (List A)} {old mid : List ℕ} {m : ℕ}
      → Going enc all todo old mid m → length mid ≡ length old
  unfolding size
  keeps g = let h = bytes_of_lem g in same_long g.logged (omega (arith, g.logged.count))

  -- the part to be lent starts inside the buffer
  pub inside :
      {all : List A} {todo : List (List A)} {old mid : List ℕ} {m : ℕ}
      → Going enc all todo old mid m → m ≤ length mid
  inside g = omega (arith, bytes_of_lem g, keeps g)

  -- the next segment has room in it
  pub fits :
      {all seg : List A} {todo : List (List A)} {old mid : List ℕ} {m : ℕ}
      → Going enc all (seg ∷ todo) old mid m → size enc seg ≤ length (part mid m)
  unfolding size flat
  fits {all} {seg} {todo} g =
      room (size enc seg) g.logged (omega (arith, bytes_of_lem g, g.logged.count, size_append enc seg (flat todo)))

  -- the new end is no further than the buffer's, so it is a number of 64 bits
  pub ends :
      {all seg : List A} {todo : List (List A)} {old mid new : List ℕ} {m n : ℕ}
      → Going enc all (seg ∷ todo) old mid m → Logged enc seg (part mid m) new n → Fits w64 (m + n)
  unfolding size flat
  ends {all} {seg} {todo} g l = record { fits = omega (arith, bytes_of_lem g, g.small, l.count, size_append enc seg (flat todo)) }

  -- all is written
  pub whole : {all : List A} {old mid : List ℕ} {m : ℕ} → Going enc all [] old mid m → Logged enc all old mid m
  unfolding flat
  whole {all} {old} {mid} {m} g = rw (← g.rest, append-nil g.done) g.logged

  -- a run written from a start of a larger buffer lays its bytes over it
  pub spliced :
      (old : List ℕ) (start : ℕ) {es : List A} {ys : List ℕ} {n : ℕ}
      → Logged enc es (part old start) ys n → back old start ys ≡ splice old start (each enc es)
  unfolding splice
  spliced old start {es} {ys} {n} l =
      back_is old start ys
      ∙ ap (λ (l : List ℕ). take start old ++ l) (l.bytes ∙ ap (λ (l : List ℕ). each enc es ++ drop (length (each enc es)) l) (part_is old start) ∙ ap (λ (l : List ℕ). each enc es ++ l) (drop-drop (length (each enc es)) start old))
      ∙ sym (append_assoc (take start old) (each enc es) _)
