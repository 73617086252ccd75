-- Parts of buffers that agree, and bytes laid over a buffer. Assumes nothing.
use Prim.Native.Nat.{ℕ, zero, suc, ◌+◌, ◌≤◌}
use native.Mathlib.Omega.{arith}
use native.Mathlib.Nat.{zero-add, suc-add, add-zero, add_assoc}
use mathlib.Core.Path.{◌≡◌, sym, ap, ap₂, ◌∙◌}
use mathlib.Core.List.{List, [], ◌∷◌, ◌++◌, append_assoc, append-nil}
use lib.ListN.{length, take, drop, length-append, length-drop, take-append-drop}
use lib.Seq.{take-nil, drop-drop, take-take, take_at, drop_at, length-take-le}
use Rattle.laws.specs.Lending.{splice}

drop_take : (s n : ℕ) (x : List ℕ) → take n (drop s x) ≡ drop s (take (s + n) x)
drop_take zero n x = rw (zero-add n)
drop_take (suc s) n [] = rw (take-nil n, take-nil (suc s + n))
drop_take (suc s) n (a ∷ x) = rw (suc-add s n) (drop_take s n x)

pub same_part : (s n : ℕ) (x y : List ℕ) → take (s + n) x ≡ take (s + n) y → take n (drop s x) ≡ take n (drop s y)
same_part s n x y e = drop_take s n x ∙ ap (drop s) e ∙ sym (drop_take s n y)

pub same_front : (s n : ℕ) (x y : List ℕ) → take (s + n) x ≡ take (s + n) y → take s x ≡ take s y
same_front s n x y e = sym (take-take s (s + n) x (omega arith)) ∙ ap (take s) e ∙ take-take s (s + n) y (omega arith)

pub same_end : (m k : ℕ) (x y : List ℕ) → drop m x ≡ drop m y → drop (m + k) x ≡ drop (m + k) y
same_end m k x y e = sym (drop-drop k m x) ∙ ap (drop k) e ∙ drop-drop k m y

-- nothing is laid
pub splice_none : (p : List ℕ) (s : ℕ) → splice p s [] ≡ p
unfolding splice
splice_none p s = rw (append-nil (take s p), add-zero s) (take-append-drop s p)

pub splice_long : (p : List ℕ) (s : ℕ) (x : List ℕ) → s + length x ≤ length p → length (splice p s x) ≡ length p
unfolding splice
splice_long p s x h =
    let e : length (take s p) ≡ s = length-take-le s p (omega arith) in
    simp (length-append, length-drop, e) (omega arith)

-- one part behind another is both
pub splice_splice :
    (p : List ℕ) (s : ℕ) (x y : List ℕ) → s + length x ≤ length p
    → splice (splice p s x) (s + length x) y ≡ splice p s (x ++ y)
unfolding splice
splice_splice p s x y h =
    let front : length (take s p ++ x) ≡ s + length x = simp (length-append, length-take-le s p (omega arith)) in
    let rest = drop (s + length x) p in
    let a : take (s + length x) (take s p ++ x ++ rest) ≡ take s p ++ x = take_at (take s p ++ x) rest (s + length x) front in
    let b : drop (s + length x + length y) (take s p ++ x ++ rest) ≡ drop (s + length (x ++ y)) p =
    sym (drop-drop (length y) (s + length x) (take s p ++ x ++ rest))
    ∙ ap (drop (length y)) (drop_at (take s p ++ x) rest (s + length x) front)
    ∙ drop-drop (length y) (s + length x) p
    ∙ ap (λ (n : ℕ). drop n p) (add_assoc s (length x) (length y) ∙ ap (λ (n : ℕ). s + n) (sym (length-append x y))) in
    ap₂ (λ (u v : List ℕ). u ++ y ++ v) a b ∙ ap (λ (u : List ℕ). u ++ drop (s + length (x ++ y)) p) (append_assoc (take s p) x y)
