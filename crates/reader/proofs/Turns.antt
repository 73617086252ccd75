-- One turn of the loop over a chunk: what the bytes that it takes do. Assumes nothing.
use Prim.Native.Nat.{ℕ, suc, ◌+◌, ◌-◌, ◌≤◌, ◌<◌, min}
use native.Mathlib.Nat.{add-zero}
use native.Mathlib.Omega.{arith}
use borrow.Author.Tests.{ltb-true, ltb-false}
use mathlib.Core.Path.{◌≡◌, refl, sym, ap, ap₂, ◌∙◌}
use mathlib.Core.Logic.{inl, inr}
use mathlib.Core.List.{List, [], ◌∷◌, ◌++◌}
use mathlib.Core.Bool.{Bool, true, false, cond}
use lib.ListN.{length, get_or, take, drop, length-append, length-drop, drop_of_length-le}
use lib.Seq.{take_all, drop-drop, drop-cons, length-take-le}
use lib.Dec.{ltb}
use Rattle.registers.specs.Files.{is_file}
use Rattle.streams.specs.Cuts.{Saying, quiet, told, waits, stops, fed_from}
use Rattle.streams.specs.Streams.{length_of, of_file, Said, meaning}
use Rattle.reader.specs.Items.{ahead, doing, onward, closed, taking, after_item, only_open, goes_on, PartIn, Less}
use Rattle.reader.specs.declared.held.Reader.{Reader}
use Rattle.reader.specs.declared.items.Brought.{Brought}
use Rattle.reader.specs.declared.items.Brought.TheVariants.{Nothing, Unknown, BadFile, Record}
use Rattle.reader.specs.declared.items.Taking.{Taking}
use Rattle.reader.proofs.Parts.{ahead_ahead, meant, moves_not, part_fed, whole_fed}

no_true : false ≡ true → ⊥
no_true e = let z : ◌≡◌ {A = ℕ} 0 1 = cc in omega arith

-- while it goes on, nothing was brought and something is left
pub going : (t : Taking) (end : ℕ) → goes_on t end ≡ true → (t.brought ≡ Nothing) × (t.taken < end)
unfolding goes_on
going t end e = go t.brought refl e
  where
    go : (b : Brought) → t.brought ≡ b → cond (only_open b) (ltb t.taken end) false ≡ true → (t.brought ≡ Nothing) × (t.taken < end)
    go Nothing z h = (z, ltb-true t.taken end h)
    go Unknown z h = absurd (no_true h)
    go BadFile z h = absurd (no_true h)
    go Record z h = absurd (no_true h)

-- what a whole item meant, after bytes of the chunk that were taken before
meant_ahead : (o : List ℕ × Saying Said) (at n : ℕ) (c : List ℕ) → ahead at (meant length_of meaning o n (drop n (drop at c))) ≡ after_item o (at + n) c
meant_ahead (g, quiet) at n c = ahead_ahead at n (fed_from length_of meaning g [] (drop n (drop at c))) ∙ ap (λ (l : List ℕ). ahead (at + n) (fed_from length_of meaning g [] l)) (drop-drop n at c)
meant_ahead (g, told a) at n c = refl

-- a turn: what is left of the chunk, the kind of the item that goes on, and its length
pub record Turn (t : Taking) (r : Reader) (c rest : List ℕ) (kind long : ℕ) : Type 0 where
  pub part : PartIn t.brought r.kept
  pub goes : goes_on t (length c) ≡ true
  pub is : rest ≡ take (length c - t.taken) (drop t.taken c)
  pub kinds : kind ≡ get_or (r.kept ++ (get_or rest 0 0 ∷ [])) 0 0
  pub lengths : long ≡ length_of kind

pub turn :
    (t : Taking) (r : Reader) (c : List ℕ) {kind long : ℕ}
    → PartIn t.brought r.kept → goes_on t (length c) ≡ true
    → kind ≡ get_or (r.kept ++ (get_or (take (length c - t.taken) (drop t.taken c)) 0 0 ∷ [])) 0 0 → long ≡ length_of kind
    → Turn t r c (take (length c - t.taken) (drop t.taken c)) kind long
turn t r c part goes kinds lengths = record { part = part; goes = goes; is = refl; kinds = kinds; lengths = lengths }

-- the bytes that a turn takes: some, none past the chunk's end or the item's
pub some_taken : (long kept at end rest n : ℕ) → rest ≡ end - at → n ≡ min rest (long - kept) → kept < long → at < end → (0 < n) × (at + n ≤ end) × (kept + n ≤ long)
some_taken long kept at end rest n r e h k = (omega arith, omega arith, omega arith)

module _ {t : Taking} {r : Reader} {c rest : List ℕ} {kind long : ℕ} (u : Turn t r c rest kind long) where
  -- the rest goes to the chunk's end
  rest_is : rest ≡ drop t.taken c
  rest_is = u.is ∙ take_all (length c - t.taken) (drop t.taken c) (omega (arith, length-drop t.taken c))

  length_rest : length rest ≡ length c - t.taken
  length_rest = ap length rest_is ∙ length-drop t.taken c

  some_rest : 0 < length rest
  some_rest = omega (arith, length_rest, (going t (length c) u.goes).1)

  left_over : onward t r c ≡ ahead t.taken (fed_from length_of meaning r.file r.kept rest)
  unfolding onward
  left_over = rw ((going t (length c) u.goes).0, rest_is)

  pub unknown_here : long ≡ 0 → onward (taking Unknown t.taken) r c ≡ onward t r c
  unfolding onward
  unknown_here e =
      sym (left_over
      ∙ ap (λ (x : List ℕ). ahead t.taken (fed_from length_of meaning r.file r.kept x)) (drop-cons rest 0 0 some_rest)
      ∙ ap (ahead t.taken) (moves_not length_of meaning r.file kind r.kept (get_or rest 0 0) (drop 1 rest) (sym u.kinds) (sym u.lengths ∙ e))
      ∙ ap (λ (n : ℕ). stops r.file n) (add-zero t.taken))

  part_now : PartIn Nothing r.kept
  part_now = rw (going t (length c) u.goes).0 at u.part

  -- an item that goes on is shorter than its kind's
  pub below : (long ≡ 0 → ⊥) → length r.kept < long
  below n = rw (u.lengths, u.kinds) (go r.kept (λ e. n (u.lengths ∙ ap length_of u.kinds ∙ e)) part_now)
    where
      first : List ℕ → ℕ
      first x = get_or (x ++ (get_or rest 0 0 ∷ [])) 0 0

      go : (x : List ℕ) → (length_of (first x) ≡ 0 → ⊥) → PartIn Nothing x → length x < length_of (first x)
      go [] n z = omega (arith, n)
      go (b ∷ x) n (inl z) = absurd (omega arith)
      go (b ∷ x) n (inr z) = z

  -- as many bytes as are left or as the item lacks, laid behind those that are kept
  module _ (n : ℕ) (fewest : n ≡ min (length rest) (long - length r.kept)) (known : long ≡ 0 → ⊥) where
    some : (0 < n) × (t.taken + n ≤ length c) × (length r.kept + n ≤ long)
    some =
        some_taken long (length r.kept) t.taken (length c) (length rest) n length_rest fewest (below known) (going t (length c) u.goes).1

    -- more is taken, whatever was brought
    pub taken_on : (b : Brought) → Less (taking b (t.taken + n)) t (length c)
    taken_on b = record { within = some.1; more = λ e. omega (arith, some) }

    module _ (after : Reader) (file : after.file ≡ r.file) (kept : after.kept ≡ r.kept ++ take n rest) where
      enough : n ≤ length rest
      enough = omega (arith, length_rest, some)

      longer : length after.kept ≡ length r.kept + n
      longer = ap length kept ∙ length-append r.kept (take n rest) ∙ ap (λ (i : ℕ). length r.kept + i) (length-take-le n rest enough)

      drop_rest : drop n rest ≡ drop (t.taken + n) c
      drop_rest = ap (drop n) rest_is ∙ drop-drop n t.taken c

      pub part_taken : length after.kept < long → onward (taking Nothing (t.taken + n)) after c ≡ onward t r c
      unfolding onward
      part_taken h =
          ap₂ (λ (x : List ℕ) (f : List ℕ). ahead (t.taken + n) (fed_from length_of meaning f x (drop (t.taken + n) c))) kept file
          ∙ sym (left_over
          ∙ ap (ahead t.taken) (part_fed length_of meaning r.file kind r.kept rest n some.0 enough (sym u.kinds) (omega (arith, longer, u.lengths)))
          ∙ ahead_ahead t.taken n (fed_from length_of meaning r.file (r.kept ++ take n rest) (drop n rest))
          ∙ ap (λ (x : List ℕ). ahead (t.taken + n) (fed_from length_of meaning r.file (r.kept ++ take n rest) x)) drop_rest)

      pub whole_taken :
          (long ≤ length after.kept) → (s : Taking) (v : Reader)
          → onward s v c ≡ after_item (meaning after.file after.kept) (t.taken + n) c → onward s v c ≡ onward t r c
      whole_taken h s v e =
          let all : length r.kept + n ≡ length_of kind = omega (arith, longer, u.lengths, some) in
          e
          ∙ ap₂ (λ (x : List ℕ) (f : List ℕ). after_item (meaning f x) (t.taken + n) c) kept file
          ∙ sym (left_over
          ∙ ap (ahead t.taken) (whole_fed length_of meaning r.file kind r.kept rest n some.0 enough (sym u.kinds) all)
          ∙ ap (λ (x : List ℕ). ahead t.taken (meant length_of meaning (meaning r.file (r.kept ++ take n rest)) n (drop n x))) rest_is
          ∙ meant_ahead (meaning r.file (r.kept ++ take n rest)) t.taken n c)

-- WHAT A WHOLE ITEM LEAVES
module _ (r : Reader) (n : ℕ) (c : List ℕ) where
  pub good_file :
      (s : Reader) → of_file (get_or r.kept 0 0) ≡ true → is_file r.kept ≡ true → s.file ≡ r.kept → s.kept ≡ []
      → onward (taking Nothing n) s c ≡ after_item (meaning r.file r.kept) n c
  unfolding onward meaning
  good_file s h g e z = rw (h, g, e, z)

  pub bad_file_lem :
      of_file (get_or r.kept 0 0) ≡ true → is_file r.kept ≡ false
      → onward (taking BadFile n) r c ≡ after_item (meaning r.file r.kept) n c
  unfolding onward meaning
  bad_file_lem h g = rw (h, g)

  pub whole_record : of_file (get_or r.kept 0 0) ≡ false → onward (taking Record n) r c ≡ after_item (meaning r.file r.kept) n c
  unfolding onward meaning
  whole_record h = rw h

-- what was brought ends the loop
pub unknown_ends : (n end : ℕ) → goes_on (taking Unknown n) end ≡ true → ⊥
unfolding goes_on
unknown_ends n end e = no_true e

-- the loop ends
abbrev pub left : Taking → ℕ → ℕ
left t end = cond (goes_on t end) (suc (end - t.taken)) 0

pub fewer : (r t : Taking) (end : ℕ) → goes_on t end ≡ true → Less r t end → left r end < left t end
fewer r t end e l = rw e (go (goes_on r end) refl)
  where
    go : (b : Bool) → goes_on r end ≡ b → cond b (suc (end - r.taken)) 0 < suc (end - t.taken)
    go true h = omega (arith, l.more h, l.within)
    go false h = omega arith

-- and then the chunk is taken, or something was brought
pub all_taken : (t : Taking) (r : Reader) (c : List ℕ) → goes_on t (length c) ≡ false → t.taken ≤ length c → closed t r ≡ onward t r c
unfolding closed onward goes_on fed_from
all_taken t r c h w = go t.brought refl
  where
    go : (b : Brought) → t.brought ≡ b
        → doing b t.taken r.file r.kept (waits r.file r.kept)
        ≡ doing b t.taken r.file r.kept (ahead t.taken (fed_from length_of meaning r.file r.kept (drop t.taken c)))
    go Nothing e =
        let z : ltb t.taken (length c) ≡ false = rw e at h in
        ap (λ (x : List ℕ). ahead t.taken (fed_from length_of meaning r.file r.kept x)) (sym (drop_of_length-le c (ltb-false t.taken (length c) z)))
    go Unknown e = refl
    go BadFile e = refl
    go Record e = refl
