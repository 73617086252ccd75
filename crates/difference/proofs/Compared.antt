-- Two logs: what is answered of them by how they read. Assumes nothing.
use Prim.Native.Nat.{ℕ, ◌<◌}
use native.Mathlib.Omega.{arith}
use borrow.Author.Tests.{lt-ltb, le-ltb, ltb-true, ltb-false}
use mathlib.Core.Path.{◌≡◌, refl, sym, ap, ap₂, ◌∙◌}
use mathlib.Core.List.{List}
use mathlib.Core.Bool.{Bool, true, false, ◌||◌}
use lib.ListN.{length, drop, length-drop, drop_of_length-le}
use lib.Dec.{ltb}
use Rattle.std.specs.Prelude.{Result, Ok, Err}
use Rattle.laws.specs.declared.refusals.Refusal.{Refusal}
use Rattle.laws.proofs.Lending.{part, part_is}
use Rattle.definition.specs.Readings.{Reads, end, next}
use Rattle.definition.specs.declared.Event.{Event}
use Rattle.event.specs.Wholes.{Whole, all, broken, events_in, whole_of}
use Rattle.event.specs.Counts.{count_in, counted_of}
use Rattle.event.proofs.Fronts.{holds}
use Rattle.event.proofs.Wholes.{whole_reads}
use Rattle.event.proofs.Cuts.{Cut, reads_cut}
use Rattle.difference.specs.declared.logs.Parted.{Parted}
use Rattle.difference.specs.Partings.{front_of, left_of, rest_of, differ, parting_at, refused, parted_by, parted_of, parting_of}
use Rattle.difference.proofs.Lists.{split}

-- something is left of a log exactly where something is left of its events
any_left : (l : List ℕ) (es : List Event) → Reads l es → ltb 0 (length l) ≡ ltb 0 (length es)
any_left l es end = refl
any_left l es (next {es = rest} n f r) =
    let c = holds l f in lt-ltb 0 (length l) (omega (arith, c.inside, c.long)) ∙ sym (lt-ltb 0 (length es) (omega arith))

left_behind : (l : List ℕ) (at : ℕ) → ltb at (length l) ≡ ltb 0 (length (drop at l))
left_behind l at = by_order (ltb at (length l)) refl
  where
    by_order : (t : Bool) → ltb at (length l) ≡ t → t ≡ ltb 0 (length (drop at l))
    by_order true h = let m = ltb-true at (length l) h in let s = length-drop at l in sym (lt-ltb 0 (length (drop at l)) (omega arith))
    by_order false h = let m = ltb-false at (length l) h in let s = length-drop at l in sym (le-ltb 0 (length (drop at l)) (omega arith))

module _ (a b : List ℕ) (xs ys : List Event) (r : Reads a xs) (q : Reads b ys) where
  pub cut_first : Cut a (front_of xs ys) (left_of xs ys)
  cut_first = reads_cut (front_of xs ys) (left_of xs ys) a (rw (split xs ys).first at r)

  pub cut_second : Cut b (front_of xs ys) (rest_of xs ys)
  cut_second = reads_cut (front_of xs ys) (rest_of xs ys) b (rw (split xs ys).second at q)

  -- the sign, by the bytes that are left
  pub sign_is : (ltb (parting_at xs ys) (length a) || ltb (parting_at xs ys) (length b)) ≡ differ xs ys
  unfolding parting_at differ
  sign_is =
      ap₂ ◌||◌ (left_behind a (parting_at xs ys) ∙ any_left (drop (parting_at xs ys) a) (left_of xs ys) cut_first.behind)
      (left_behind b (parting_at xs ys) ∙ any_left (drop (parting_at xs ys) b) (rest_of xs ys) cut_second.behind)

-- the answer by the counts, as code finds them
module _ (a b : List ℕ) {c : Result ℕ Refusal} (first : c ≡ counted_of a) where
  pub first_refused : {r : Refusal} → c ≡ Err r → refused r b ≡ parted_of a b
  unfolding counted_of parted_of
  first_refused {r} h = by_first (whole_of a) first
    where
      by_first : (v : Whole) → c ≡ count_in v → refused r b ≡ parted_by v (whole_of b) b
      by_first (all es) e = cc
      by_first (broken es q) e = let same : r ≡ q = cc in rw same

  module _ {n : ℕ} (read : c ≡ Ok n) {d : Result ℕ Refusal} (second : d ≡ counted_of b) where
    pub second_refused : {r : Refusal} → d ≡ Err r → refused r b ≡ parted_of a b
    unfolding counted_of parted_of
    second_refused {r} h = by_both (whole_of a) (whole_of b) first second
      where
        by_both : (v w : Whole) → c ≡ count_in v → d ≡ count_in w → refused r b ≡ parted_by v w b
        by_both (all xs) (all ys) p e = cc
        by_both (all xs) (broken es q) p e = let same : r ≡ q = cc in rw same
        by_both (broken es q) w p e = cc

    pub compared :
        {m : ℕ} → d ≡ Ok m → {at : ℕ} {f g : Bool} → at ≡ parting_at (events_in (whole_of a)) (events_in (whole_of b))
        → f ≡ ltb at (length a) → g ≡ ltb at (length b) → record { number = 0; differs = f || g; at = at } ≡ parted_of a b
    unfolding counted_of parted_of
    compared {m} h {at} {f} {g} place left rest = by_both (whole_of a) (whole_of b) refl refl first second place
      where
        by_both :
            (v w : Whole) → whole_of a ≡ v → whole_of b ≡ w → c ≡ count_in v → d ≡ count_in w → at ≡ parting_at (events_in v) (events_in w)
            → record { number = 0; differs = f || g; at = at } ≡ parted_by v w b
        by_both (all xs) (all ys) p q u e i =
            let x = (whole_reads a xs).0 p in
            let y = (whole_reads b ys).0 q in
            rw (left, rest, i, sign_is a b xs ys x y)
        by_both (all xs) (broken es j) p q u e i = cc
        by_both (broken es j) w p q u e i = cc

-- the tail that code hands back: from a place within the log, or nothing
pub none_past : (l : List ℕ) (at : ℕ) → length l < at → part l (length l) ≡ drop at l
none_past l at h =
    part_is l (length l) ∙ drop_of_length-le l {i = length l} (omega arith) ∙ sym (drop_of_length-le l {i = at} (omega arith))

pub tail_is : (a b : List ℕ) {p : Parted} → p ≡ parted_of a b → drop p.at b ≡ parting_of a b
unfolding parting_of
tail_is a b e = ap (λ (x : Parted). drop x.at b) e
