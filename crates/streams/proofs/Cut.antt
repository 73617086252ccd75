-- However a stream is cut, its answers are those of the whole. Assumes nothing.
use Prim.Native.Nat.{ℕ, zero, suc, ◌≤◌, ◌<◌}
use native.Mathlib.Omega.{arith}
use native.Mathlib.Nat.{eq-or-lt_of_le}
use borrow.Author.Tests.{lt-ltb, le-ltb, ltb-true, ltb-false, eqb-true, eqb-false, eq-eqb, ne_eqb}
use mathlib.Core.Path.{◌≡◌, refl, sym, ap, ◌∙◌}
use mathlib.Core.Logic.{⊎_elim, ◌⊎◌, inl, inr}
use mathlib.Core.List.{List, [], ◌∷◌, ◌++◌, append_assoc, append-nil}
use mathlib.Core.Bool.{Bool, true, false, cond}
use lib.ListN.{length, get_or, take, drop, length-append, length-drop}
use lib.Seq.{take_at, drop_at, append_snoc}
use lib.Dec.{ltb, eqb}
use Rattle.laws.specs.Lists.{flat}
use Rattle.std.proofs.lemmas.Bool.{cond_both}
use Rattle.laws.proofs.Every.{Every, every_append}
use Rattle.streams.specs.Cuts.{Saying, quiet, told, said_by, Front, ended, unknown, inside, whole, Told, tells, before, front_by, on_front, told_from, told_of, Reader, reader, Move, halts, keeps, ends, move_by, Fed, waits, says, stops, further, on_saying, on_move, fed_from, on_fed, handed, handed_of, handed_all, closing_of}

pub before_before : {A : Type 0} (xs ys : List A) (t : Told A) → before xs (before ys t) ≡ before (xs ++ ys) t
before_before xs ys t = ap (λ l. tells l t.closing) (sym (append_assoc xs ys t.answers))

-- an item takes some of the bytes
abbrev Shorter : List ℕ → Front → Type 0
Shorter x ended = Unit
Shorter x unknown = Unit
Shorter x inside = Unit
Shorter x (whole item rest) = length rest < length x

shorter : (long : ℕ → ℕ) (x : List ℕ) → Shorter x (front_by long x)
unfolding front_by
shorter long x =
    cond_both (eqb (length x) 0) _ _ (Shorter x) (λ t. tt)
    (λ t. cond_both (eqb (long (get_or x 0 0)) 0) _ _ (Shorter x) (λ u. tt)
    (λ u. cond_both (ltb (length x) (long (get_or x 0 0))) _ _ (Shorter x) (λ v. tt)
    (λ v. omega (arith, eqb-false (length x) 0 t, eqb-false (long (get_or x 0 0)) 0 u, length-drop (long (get_or x 0 0)) x))))

just_long : (n m : ℕ) → m ≤ n → (m ≡ 0 → ⊥) → (m < n → m ≡ 0) → n ≡ m
just_long n m h z most = ⊎_elim (λ (e : m ≡ n). sym e) (λ (l : m < n). absurd (z (most l))) (eq-or-lt_of_le h)

module _ {F A : Type 0} (long : ℕ → ℕ) (mean : F → List ℕ → F × Saying A) (one : A) where
  same_front : (x : List ℕ) (r : Front) (g h : List ℕ → List ℕ → Told A) → Shorter x r
      → ((item rest : List ℕ) → length rest < length x → g item rest ≡ h item rest) → on_front one r g ≡ on_front one r h
  same_front x ended g h s e = refl
  same_front x unknown g h s e = refl
  same_front x inside g h s e = refl
  same_front x (whole item rest) g h s e = e item rest s

  nothing_left : (i : ℕ) (f : F) (x : List ℕ) → length x ≡ 0 → told_from long mean one i f x ≡ tells [] 0
  unfolding told_from front_by
  nothing_left zero f x h = refl
  nothing_left (suc i) f x h = rw (eq-eqb (length x) 0 h)

  fuel : (i j : ℕ) (f : F) (x : List ℕ) → length x ≤ i → length x ≤ j → told_from long mean one i f x ≡ told_from long mean one j f x
  unfolding told_from
  fuel zero j f x h k = nothing_left zero f x (omega arith) ∙ sym (nothing_left j f x (omega arith))
  fuel (suc i) zero f x h k = nothing_left (suc i) f x (omega arith)
  fuel (suc i) (suc j) f x h k =
      same_front x (front_by long x) _ _ (shorter long x)
      (λ item rest s. ap (before (said_by (mean f item).1)) (fuel i j (mean f item).0 rest (omega arith) (omega arith)))

  -- one item more
  pub unrolled : (f : F) (x : List ℕ)
      → told_of long mean one f x ≡ on_front one (front_by long x) (λ item rest. before (said_by (mean f item).1) (told_of long mean one (mean f item).0 rest))
  unfolding told_of told_from
  unrolled f x =
      fuel (length x) (suc (length x)) f x (omega arith) (omega arith)
      ∙ same_front x (front_by long x) _ _ (shorter long x)
      (λ item rest s. ap (before (said_by (mean f item).1)) (fuel (length x) (length rest) (mean f item).0 rest (omega arith) (omega arith)))

  abbrev of : F → List ℕ → Told A
  of f x = told_of long mean one f x

  -- kept bytes are none, or a part of an item
  abbrev pub Open : List ℕ → Type 0
  Open kept = (length kept ≡ 0) ⊎ (length kept < long (get_or kept 0 0))

  -- what the bytes tell from here on, by what the next byte does
  abbrev on_byte : F → List ℕ → Move F A → Told A
  on_byte f y halts = tells (one ∷ []) 1
  on_byte f y (keeps item) = of f (item ++ y)
  on_byte f y (ends g s) = before (said_by s) (of g y)

  head_kept : (item y : List ℕ) → 0 < length item → get_or (item ++ y) 0 0 ≡ get_or item 0 0
  head_kept [] y h = absurd (omega arith)
  head_kept (b ∷ l) y h = refl

  -- an item that is just whole
  pub whole_front : (item y : List ℕ) → 0 < length item → length item ≡ long (get_or item 0 0) → front_by long (item ++ y) ≡ whole item y
  unfolding front_by
  whole_front item y h e =
      let n = length-append item y in
      let t : eqb (length (item ++ y)) 0 ≡ false = ne_eqb (length (item ++ y)) 0 (λ (z : length (item ++ y) ≡ 0). omega arith) in
      let u : eqb (long (get_or item 0 0)) 0 ≡ false = ne_eqb (long (get_or item 0 0)) 0 (λ (z : long (get_or item 0 0) ≡ 0). omega arith) in
      let v : ltb (length (item ++ y)) (long (get_or item 0 0)) ≡ false = le-ltb (length (item ++ y)) (long (get_or item 0 0)) (omega arith) in
      rw (t, head_kept item y h, u, v, take_at item y (long (get_or item 0 0)) e, drop_at item y (long (get_or item 0 0)) e)

  unknown_front : (item y : List ℕ) → 0 < length item → long (get_or item 0 0) ≡ 0 → front_by long (item ++ y) ≡ unknown
  unfolding front_by
  unknown_front item y h e =
      let n = length-append item y in
      let t : eqb (length (item ++ y)) 0 ≡ false = ne_eqb (length (item ++ y)) 0 (λ (z : length (item ++ y) ≡ 0). omega arith) in
      rw (t, head_kept item y h, eq-eqb (long (get_or item 0 0)) 0 e)

  -- one byte
  item_moves : (f : F) (item y : List ℕ) → 0 < length item → (long (get_or item 0 0) < length item → long (get_or item 0 0) ≡ 0)
      → of f (item ++ y) ≡ on_byte f y (move_by long mean f item)
  unfolding move_by
  item_moves f item y h most =
      cond_both (eqb (long (get_or item 0 0)) 0) _ _ (λ m. of f (item ++ y) ≡ on_byte f y m)
      (λ t. unrolled f (item ++ y) ∙ rw (unknown_front item y h (eqb-true (long (get_or item 0 0)) 0 t)))
      (λ t. cond_both (ltb (length item) (long (get_or item 0 0))) _ _ (λ m. of f (item ++ y) ≡ on_byte f y m) (λ u. refl)
      (λ u.
      let z : long (get_or item 0 0) ≡ 0 → ⊥ = eqb-false (long (get_or item 0 0)) 0 t in
      let v : long (get_or item 0 0) ≤ length item = ltb-false (length item) (long (get_or item 0 0)) u in
      let e : length item ≡ long (get_or item 0 0) = just_long (length item) (long (get_or item 0 0)) v z most in
      unrolled f (item ++ y) ∙ rw (whole_front item y h e)))

  -- what a piece does, said of whatever may follow it
  abbrev Fact : F → List ℕ → List ℕ → Fed F A → Type 0
  Fact f kept c (waits g l) = Open l × ((y : List ℕ) → of f (kept ++ (c ++ y)) ≡ of g (l ++ y))
  Fact f kept c (says a g n) = (0 < n) × (n ≤ length c) × ((y : List ℕ) → of f (kept ++ (c ++ y)) ≡ before (a ∷ []) (of g (drop n c ++ y)))
  Fact f kept c (stops g n) = (n ≤ length c) × ((y : List ℕ) → of f (kept ++ (c ++ y)) ≡ tells (one ∷ []) 1)

  -- a byte in front that told nothing
  fact_further : (f g : F) (kept item : List ℕ) (b : ℕ) (c : List ℕ) (r : Fed F A)
      → ((y : List ℕ) → of f (kept ++ (b ∷ y)) ≡ of g (item ++ y)) → Fact g item c r → Fact f kept (b ∷ c) (further r)
  fact_further f g kept item b c (waits h l) e k = (k.0, λ y. e (c ++ y) ∙ k.1 y)
  fact_further f g kept item b c (says a h n) e k = (omega arith, omega (arith, k.1), λ y. e (c ++ y) ∙ k.2 y)
  fact_further f g kept item b c (stops h n) e k = (omega (arith, k.0), λ y. e (c ++ y) ∙ k.1 y)

  fact_said : (f g : F) (kept : List ℕ) (b : ℕ) (c : List ℕ) (s : Saying A) (r : Fed F A)
      → ((y : List ℕ) → of f (kept ++ (b ∷ y)) ≡ before (said_by s) (of g y)) → Fact g [] c r → Fact f kept (b ∷ c) (on_saying g s r)
  fact_said f g kept b c quiet r e k = fact_further f g kept [] b c r e k
  fact_said f g kept b c (told a) r e k = (omega arith, omega arith, λ y. e (c ++ y))

  -- an item that goes on is a part
  going : (f : F) (kept : List ℕ) (b : ℕ) → Open kept → long (get_or (kept ++ (b ∷ [])) 0 0) < length (kept ++ (b ∷ [])) → long (get_or (kept ++ (b ∷ [])) 0 0) ≡ 0
  going f [] b o h = omega arith
  going f (k ∷ l) b o h = let n = length-append l (b ∷ []) in absurd (⊎_elim (λ (z : suc (length l) ≡ 0). omega arith) (λ (z : suc (length l) < long k). omega arith) o)

  abbrev OpenMove : Move F A → Type 0
  OpenMove halts = Unit
  OpenMove (keeps item) = Open item
  OpenMove (ends g s) = Unit

  open_move : (f : F) (item : List ℕ) → OpenMove (move_by long mean f item)
  unfolding move_by
  open_move f item =
      cond_both (eqb (long (get_or item 0 0)) 0) _ _ OpenMove (λ t. tt)
      (λ t. cond_both (ltb (length item) (long (get_or item 0 0))) _ _ OpenMove (λ u. inr (ltb-true (length item) (long (get_or item 0 0)) u)) (λ u. tt))

  by_move : (f : F) (kept : List ℕ) (b : ℕ) (c : List ℕ) (m : Move F A) → OpenMove m
      → ((y : List ℕ) → of f (kept ++ (b ∷ y)) ≡ on_byte f y m)
      → ((g : F) (item : List ℕ) → Open item → Fact g item c (fed_from long mean g item c))
      → Fact f kept (b ∷ c) (on_move f m (λ g item. fed_from long mean g item c))
  by_move f kept b c halts o e rec = (omega arith, λ y. e (c ++ y))
  by_move f kept b c (keeps item) o e rec = fact_further f f kept item b c (fed_from long mean f item c) e (rec f item o)
  by_move f kept b c (ends g s) o e rec = fact_said f g kept b c s (fed_from long mean g [] c) e (rec g [] (inl refl))

  pub fed : (f : F) (kept c : List ℕ) → Open kept → Fact f kept c (fed_from long mean f kept c)
  unfolding fed_from
  fed f kept [] o = (o, λ y. refl)
  fed f kept (b ∷ c) o =
      by_move f kept b c (move_by long mean f (kept ++ (b ∷ []))) (open_move f (kept ++ (b ∷ [])))
      (λ y. ap (of f) (sym (append_snoc kept b y)) ∙ item_moves f (kept ++ (b ∷ [])) y (omega (arith, length-append kept (b ∷ []))) (going f kept b o))
      (λ g item o. fed g item c o)

  -- Every answer is told of a whole item: what holds of what such items mean (P of an answer, Q of the state that they leave) holds of
  -- what a piece does; what holds of each byte (B) holds of those that are kept; and an answer takes some of the bytes
  module _ (P : A → Type 0) (Q : F → Type 0) (B : ℕ → Type 0) where
    abbrev pub Okay : Saying A → Type 0
    Okay quiet = Unit
    Okay (told a) = P a

    abbrev OkMove : List ℕ → Move F A → Type 0
    OkMove x halts = long (get_or x 0 0) ≡ 0
    OkMove x (keeps item) = Open item
    OkMove x (ends g s) = Okay s × Q g

    abbrev pub OkFed : List ℕ → Fed F A → Type 0
    OkFed c (waits g l) = Open l × Q g × Every B l
    OkFed c (says a g n) = P a × (0 < n) × (n ≤ length c) × Q g
    OkFed c (stops g n) = (n < length c) × (long (get_or c n 0) ≡ 0) × Q g

    module _ (okay : (f : F) (item : List ℕ) → length item ≡ long (get_or item 0 0) → 0 < length item → Every B item → Q f → Okay (mean f item).1 × Q (mean f item).0) where
      ok_move : (f : F) (item : List ℕ) → 0 < length item → (long (get_or item 0 0) < length item → long (get_or item 0 0) ≡ 0) → Every B item → Q f
          → OkMove item (move_by long mean f item)
      unfolding move_by
      ok_move f item h most bs q =
          cond_both (eqb (long (get_or item 0 0)) 0) _ _ (OkMove item) (λ t. eqb-true (long (get_or item 0 0)) 0 t)
          (λ t. cond_both (ltb (length item) (long (get_or item 0 0))) _ _ (OkMove item) (λ u. inr (ltb-true (length item) (long (get_or item 0 0)) u))
          (λ u. okay f item
          (just_long (length item) (long (get_or item 0 0)) (ltb-false (length item) (long (get_or item 0 0)) u) (eqb-false (long (get_or item 0 0)) 0 t) most) h bs q))

      ok_further : (b : ℕ) (c : List ℕ) (r : Fed F A) → OkFed c r → OkFed (b ∷ c) (further r)
      ok_further b c (waits g l) k = k
      ok_further b c (says a g n) k = (k.0, omega arith, omega (arith, k.2), k.3)
      ok_further b c (stops g n) k = (omega (arith, k.0), k.1, k.2)

      ok_said : (g : F) (b : ℕ) (c : List ℕ) (s : Saying A) (r : Fed F A) → Okay s × Q g → OkFed c r → OkFed (b ∷ c) (on_saying g s r)
      ok_said g b c quiet r o k = ok_further b c r k
      ok_said g b c (told a) r o k = (o.0, omega arith, omega arith, o.1)

      halts_here : (kept : List ℕ) (b : ℕ) → Open kept → long (get_or (kept ++ (b ∷ [])) 0 0) ≡ 0 → long b ≡ 0
      halts_here [] b o e = e
      halts_here (k ∷ l) b o e = absurd (⊎_elim (λ (z : suc (length l) ≡ 0). omega arith) (λ (z : suc (length l) < long k). omega arith) o)

      -- the bytes that one byte leaves kept are the item's
      abbrev Keeps : List ℕ → Move F A → Type 0
      Keeps x halts = Unit
      Keeps x (keeps item) = item ≡ x
      Keeps x (ends g s) = Unit

      keeps_them : (f : F) (item : List ℕ) → Keeps item (move_by long mean f item)
      unfolding move_by
      keeps_them f item =
          cond_both (eqb (long (get_or item 0 0)) 0) _ _ (Keeps item) (λ t. tt)
          (λ t. cond_both (ltb (length item) (long (get_or item 0 0))) _ _ (Keeps item) (λ u. refl) (λ u. tt))

      ok_by : (f : F) (kept : List ℕ) (b : ℕ) (c : List ℕ) (m : Move F A) → Open kept → OkMove (kept ++ (b ∷ [])) m → Keeps (kept ++ (b ∷ [])) m
          → Q f → Every B (kept ++ (b ∷ []))
          → ((g : F) (item : List ℕ) → Open item → Q g → Every B item → OkFed c (fed_from long mean g item c))
          → OkFed (b ∷ c) (on_move f m (λ g item. fed_from long mean g item c))
      ok_by f kept b c halts p o w q bs rec = (omega arith, halts_here kept b p o, q)
      ok_by f kept b c (keeps item) p o w q bs rec = ok_further b c (fed_from long mean f item c) (rec f item o q (rw w bs))
      ok_by f kept b c (ends g s) p o w q bs rec = ok_said g b c s (fed_from long mean g [] c) o (rec g [] (inl refl) o.1 tt)

      pub ok_fed : (f : F) (kept c : List ℕ) → Open kept → Q f → Every B kept → Every B c → OkFed c (fed_from long mean f kept c)
      unfolding fed_from
      ok_fed f kept [] o q bs cs = (o, q, bs)
      ok_fed f kept (b ∷ c) o q bs cs =
          let all = every_append B kept (b ∷ []) bs (cs.0, tt) in
          ok_by f kept b c (move_by long mean f (kept ++ (b ∷ []))) o
          (ok_move f (kept ++ (b ∷ [])) (omega (arith, length-append kept (b ∷ []))) (going f kept b o) all q)
          (keeps_them f (kept ++ (b ∷ []))) q all
          (λ g item o q bs. ok_fed g item c o q bs cs.1)

  -- what a reader tells of bytes to come
  abbrev pub tells_of : Reader F → List ℕ → Told A
  tells_of r y = cond r.stopped (tells [] 1) (of r.file (r.kept ++ y))

  -- what a driver's outcome says of the bytes to come
  pub record Through (from : List ℕ → Told A) (c : List ℕ) (o : List A × Reader F) : Type 0 where
    pub parted : Open o.1.kept
    pub tell : (y : List ℕ) → from (c ++ y) ≡ before o.0 (tells_of o.1 y)

  by_fed : (f : F) (kept c : List ℕ) (n : ℕ) (r : Fed F A) → length c < suc n → Fact f kept c r
      → ((g : F) (rest : List ℕ) → length rest < n → Through (λ y. of g y) rest (handed long mean one n g [] rest))
      → Through (λ y. of f (kept ++ y)) c (on_fed one c r (λ g rest. handed long mean one n g [] rest))
  by_fed f kept c n (waits g l) h k rec = record { parted = k.0; tell = k.1 }
  by_fed f kept c n (says a g m) h k rec =
      let t = rec g (drop m c) (omega (arith, k.0, k.1, length-drop m c)) in
      record { parted = t.parted; tell = λ y. k.2 y ∙ ap (before (a ∷ [])) (t.tell y) }
  by_fed f kept c n (stops g m) h k rec = record { parted = inl refl; tell = λ y. k.1 y }

  through : (n : ℕ) (f : F) (kept c : List ℕ) → length c < n → Open kept → Through (λ y. of f (kept ++ y)) c (handed long mean one n f kept c)
  unfolding handed
  through zero f kept c h o = absurd (omega arith)
  through (suc n) f kept c h o =
      by_fed f kept c n (fed_from long mean f kept c) h (fed f kept c o) (λ g rest k. through n g [] rest k (inl refl))

  -- one piece
  pub one_piece : (r : Reader F) (c : List ℕ) → Open r.kept → Through (tells_of r) c (handed_of long mean one r c)
  unfolding handed_of
  one_piece r c o = go r.stopped refl
    where
      go : (t : Bool) → r.stopped ≡ t
          → Through (λ y. cond t (tells [] 1) (of r.file (r.kept ++ y))) c (cond t ([], r) (handed long mean one (suc (length c)) r.file r.kept c))
      go true e = record { parted = o; tell = λ y. rw e }
      go false e = through (suc (length c)) r.file r.kept c (omega arith) o

  -- and many
  pub many : (r : Reader F) (cs : List (List ℕ)) → Open r.kept → Through (tells_of r) (flat cs) (handed_all long mean one r cs)
  unfolding handed_all flat
  many r [] o = record { parted = o; tell = λ y. refl }
  many r (c ∷ cs) o =
      let t = one_piece r c o in
      let h = handed_of long mean one r c in
      let k = handed_all long mean one h.1 cs in
      let u = many h.1 cs t.parted in
      record {
        parted = u.parted;
        tell = λ y. ap (tells_of r) (append_assoc c (flat cs) y) ∙ t.tell (flat cs ++ y) ∙ ap (before h.0) (u.tell y) ∙ before_before h.0 k.0 (tells_of k.1 y);
      }

  -- where nothing more comes
  nothing_comes : (f : F) (kept : List ℕ) → Open kept → of f kept ≡ tells [] (cond (eqb (length kept) 0) 0 8)
  unfolding front_by
  nothing_comes f kept o =
      unrolled f kept
      ∙ ⊎_elim (λ (z : length kept ≡ 0). rw (eq-eqb (length kept) 0 z))
      (λ (z : length kept < long (get_or kept 0 0)). go (length kept) (eqb (length kept) 0) refl z)
      o
    where
      go : (n : ℕ) (t : Bool) → eqb (length kept) 0 ≡ t → length kept < long (get_or kept 0 0)
          → on_front one (cond t ended (cond (eqb (long (get_or kept 0 0)) 0) unknown (cond (ltb (length kept) (long (get_or kept 0 0))) inside (whole (take (long (get_or kept 0 0)) kept) (drop (long (get_or kept 0 0)) kept)))))
          (λ item rest. before (said_by (mean f item).1) (told_of long mean one (mean f item).0 rest))
          ≡ tells [] (cond t 0 8)
      go n true e z = refl
      go n false e z = rw (ne_eqb (long (get_or kept 0 0)) 0 (λ (w : long (get_or kept 0 0) ≡ 0). omega arith), lt-ltb (length kept) (long (get_or kept 0 0)) z)

  told_now : (r : Reader F) → Open r.kept → tells_of r [] ≡ tells [] (closing_of r)
  unfolding closing_of
  told_now r o = go r.stopped
    where
      go : (t : Bool) → cond t (tells [] 1) (of r.file (r.kept ++ [])) ≡ tells [] (cond t 1 (cond (eqb (length r.kept) 0) 0 8))
      go true = refl
      go false = rw (append-nil r.kept) (nothing_comes r.file r.kept o)

  -- THE MAIN THEOREM: a fresh reader, any pieces
  pub cut : (f : F) (cs : List (List ℕ))
      → tells (handed_all long mean one (reader f []) cs).0 (closing_of (handed_all long mean one (reader f []) cs).1) ≡ told_of long mean one f (flat cs)
  cut f cs =
      let t = many (reader f []) cs (inl refl) in
      let h = handed_all long mean one (reader f []) cs in
      sym (ap (of f) (sym (append-nil (flat cs))) ∙ t.tell [] ∙ ap (before h.0) (told_now h.1 t.parted) ∙ ap (λ l. tells l (closing_of h.1)) (append-nil h.0))
