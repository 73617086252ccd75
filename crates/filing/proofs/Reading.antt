-- Feeding a file comes to what the file comes to as a whole. Assumes nothing.
use Prim.Native.Nat.{ℕ, zero, suc, ◌+◌, ◌-◌, ◌*◌, ◌≤◌, ◌<◌}
use native.Mathlib.Omega.{arith}
use mathlib.Core.Path.{◌≡◌, refl, sym, ap, ap₂, ◌∙◌}
use mathlib.Core.Bool.{Bool, true, false, cond}
use mathlib.Core.List.{List, [], ◌∷◌, ◌++◌, append_assoc, append-nil}
use lib.ListN.{length, get_or, take, drop, length-append, length-drop, take-append-drop}
use lib.Seq.{length-take-le, get_or-take, drop-drop}
use lib.Dec.{eqb, leb, ltb}
use borrow.Author.Tests.{ne_eqb, eqb-true, eqb-false, lt-ltb, le-ltb, ltb-true, ltb-false}
use Rattle.laws.specs.Words.{number_at}
use Rattle.totals.specs.Sheets.{logs_word, most_logs, most_log_bytes, add_of, new_of}
use Rattle.filing.specs.declared.feed.Part.{Part}
use Rattle.filing.specs.declared.feed.Part.TheVariants.{Header, Length, Log}
use Rattle.filing.specs.declared.feed.Feed.TheVariants.{Reading, Refused}
use Rattle.filing.specs.Feeds.{header_bytes, length_bytes, part_size, waiting, headed, logged, sized, completed, State, emptied, is_full, pushed, fed, end_number}
use Rattle.filing.specs.Files.{onward, logs_in, file_from, start, FileIsRead}

-- the state inside a part
abbrev at : Part → List ℕ → List ℕ → State
at part w p = record { feed = Reading part (length p); words = w; pending = p }

abbrev outcome : State → ℕ × List ℕ
outcome s = (end_number s.feed, s.words)

-- after a refusal nothing changes
fed_refused : (k : ℕ) (w p l : List ℕ) → fed (record { feed = Refused k; words = w; pending = p }) l ≡ record { feed = Refused k; words = w; pending = p }
unfolding fed pushed
fed_refused k w p [] = refl
fed_refused k w p (b ∷ l) = fed_refused k w p l

one_more : (p : List ℕ) (b : ℕ) → length (p ++ (b ∷ [])) ≡ length p + 1
one_more p b = length-append p (b ∷ [])

module _ (part : Part) (w : List ℕ) where
  open_more : (p : List ℕ) (b : ℕ) → is_full part (length (p ++ (b ∷ []))) w ≡ false
  open_more p b = go part
    where
      go : (x : Part) → is_full x (length (p ++ (b ∷ []))) w ≡ false
      go Header = refl
      go Length = rw (ne_eqb (length (p ++ (b ∷ []))) 0 (λ e. omega (arith, one_more p b)))
      go (Log n) = refl

  push_grow :
      (p : List ℕ) (b : ℕ) → is_full part (length p) w ≡ false → length p + 1 < part_size part
      → pushed (at part w p) b ≡ at part w (p ++ (b ∷ []))
  unfolding pushed
  push_grow p b o h = rw (o, lt-ltb (length p + 1) (part_size part) h, one_more p b)

  push_complete :
      (p : List ℕ) (b : ℕ) → is_full part (length p) w ≡ false → part_size part ≤ length p + 1
      → pushed (at part w p) b ≡ emptied (completed part w (p ++ (b ∷ [])))
  unfolding pushed
  push_complete p b o h = rw (o, le-ltb (length p + 1) (part_size part) h)

  -- bytes that do not make the part whole
  gather : (l p : List ℕ) → is_full part (length p) w ≡ false → length p + length l < part_size part → fed (at part w p) l ≡ at part w (p ++ l)
  unfolding fed
  gather [] p o h = rw (append-nil p)
  gather (b ∷ l) p o h =
      ap (λ (s : State). fed s l) (push_grow p b o (omega arith))
      ∙ gather l (p ++ (b ∷ [])) (open_more p b) (omega (arith, one_more p b))
      ∙ ap (at part w) (append_assoc p (b ∷ []) l)

  -- bytes that do
  finish :
      (l p more : List ℕ) → is_full part (length p) w ≡ false → 0 < length l → length p + length l ≡ part_size part
      → fed (at part w p) (l ++ more) ≡ fed (emptied (completed part w (p ++ l))) more
  unfolding fed
  finish [] p more o z h = absurd (omega arith)
  finish (b ∷ []) p more o z h = ap (λ (s : State). fed s more) (push_complete p b o (omega arith))
  finish (b ∷ c ∷ l) p more o z h =
      ap (λ (s : State). fed s ((c ∷ l) ++ more)) (push_grow p b o (omega arith))
      ∙ finish (c ∷ l) (p ++ (b ∷ [])) more (open_more p b) (omega arith) (omega (arith, one_more p b))
      ∙ ap (λ (q : List ℕ). fed (emptied (completed part w q)) more) (append_assoc p (b ∷ []) (c ∷ l))

  -- a part at the front of what is left
  whole :
      (l : List ℕ) → is_full part 0 w ≡ false → 0 < part_size part → part_size part ≤ length l
      → fed (at part w []) l ≡ fed (emptied (completed part w (take (part_size part) l))) (drop (part_size part) l)
  whole l o z h =
      let n = part_size part in
      let e = length-take-le n l h in
      ap (fed (at part w [])) (sym (take-append-drop n l)) ∙ finish (take n l) [] (drop n l) o (omega arith) (omega arith)

-- a number at the front does not look further
number_front : (k i n : ℕ) (l : List ℕ) → i + n ≤ k → number_at (take k l) i n ≡ number_at l i n
unfolding number_at
number_front k i zero l h = refl
number_front k i (suc n) l h = ap₂ (λ (x y : ℕ). x + 256 * y) (get_or-take k l i 0 (omega arith)) (number_front k (i + 1) n l (omega arith))

-- the rest of the file after a step: nothing of it where the step was refused
module _ (rest : List ℕ) (later : List ℕ → ℕ × List ℕ) (h : (w : List ℕ) → outcome (fed (at Length w []) rest) ≡ later w) where
  after : (r : ℕ × List ℕ) → outcome (fed (emptied (waiting r)) rest) ≡ onward r later
  unfolding end_number
  after r = go (eqb r.0 0) refl
    where
      go : (t : Bool) → eqb r.0 0 ≡ t → outcome (fed (emptied (waiting r)) rest) ≡ cond t (later r.1) r
      go true e = ap (λ (k : ℕ). outcome (fed (emptied (waiting (k, r.1))) rest)) (eqb-true r.0 0 e) ∙ h r.1
      go false e = rw e (ap outcome (fed_refused r.0 r.1 [] rest))

-- a refusal's outcome
stops : (k : ℕ) (w l : List ℕ) → outcome (fed (emptied (Refused k, w)) l) ≡ (k, w)
unfolding end_number
stops k w l = ap outcome (fed_refused k w [] l)

module _ (w : List ℕ) (b : ℕ) (m : List ℕ) where
  abbrev l : List ℕ
  l = b ∷ m

  abbrev n : ℕ
  n = number_at l 0 4

  -- at the limit
  limit : leb most_logs (get_or w logs_word 0) ≡ true → outcome (fed (at Length w []) l) ≡ (10, w)
  unfolding fed pushed
  limit e = ap (λ (s : State). outcome (fed s m)) (rw e) ∙ stops 10 w m

  module _ (o : leb most_logs (get_or w logs_word 0) ≡ false) where
    cut_length : length l < length_bytes → outcome (fed (at Length w []) l) ≡ (1, w)
    unfolding end_number
    cut_length h = ap outcome (gather Length w l [] o (omega arith)) ∙ rw (ne_eqb (length l) 0 (λ z. omega arith))

    -- the length is read
    length_read : length_bytes ≤ length l → fed (at Length w []) l ≡ fed (emptied (sized w n)) (drop 4 l)
    unfolding completed
    length_read h = whole Length w l o (omega arith) h ∙ ap (λ (k : ℕ). fed (emptied (sized w k)) (drop 4 l)) (number_front 4 0 4 l (omega arith))

    too_long : length_bytes ≤ length l → most_log_bytes < n → outcome (fed (at Length w []) l) ≡ (2, w)
    unfolding sized
    too_long h k = ap outcome (length_read h) ∙ rw (lt-ltb most_log_bytes n k) (stops 2 w (drop 4 l))

    cut_log : length_bytes ≤ length l → n ≤ most_log_bytes → length l - length_bytes < n → outcome (fed (at Length w []) l) ≡ (1, w)
    unfolding sized end_number
    cut_log h k c =
        let d = length-drop 4 l in
        ap outcome (length_read h)
        ∙ rw (le-ltb most_log_bytes n k, ne_eqb n 0 (λ z. omega arith)) (ap outcome (gather (Log n) w (drop 4 l) [] refl (omega arith)))

    -- the log is read
    log_read :
        length_bytes ≤ length l → n ≤ most_log_bytes → n ≤ length l - length_bytes
        → fed (at Length w []) l ≡ fed (emptied (waiting (add_of w (take n (drop 4 l))))) (drop (4 + n) l)
    unfolding sized completed logged
    log_read h k c = length_read h ∙ go (eqb n 0) refl
      where
        go : (t : Bool) → eqb n 0 ≡ t → fed (emptied (sized w n)) (drop 4 l) ≡ fed (emptied (waiting (add_of w (take n (drop 4 l))))) (drop (4 + n) l)
        go true e = let z = eqb-true n 0 e in rw (le-ltb most_log_bytes n k, z)
        go false e =
            let d = length-drop 4 l in
            rw (le-ltb most_log_bytes n k, e)
            (whole (Log n) w (drop 4 l) refl (omega (arith, eqb-false n 0 e)) (omega arith)
            ∙ ap (fed (emptied (waiting (add_of w (take n (drop 4 l)))))) (drop-drop n 4 l))

-- one log more
log_step :
    (fuel : ℕ) (w : List ℕ) (b : ℕ) (m : List ℕ)
    → ((u : List ℕ) → outcome (fed (at Length u []) (drop (4 + n w b m) (b ∷ m))) ≡ logs_in fuel u (drop (4 + n w b m) (b ∷ m)))
    → outcome (fed (at Length w []) (b ∷ m)) ≡ logs_in (suc fuel) w (b ∷ m)
unfolding logs_in
log_step fuel w b m later =
    go (leb most_logs (get_or w logs_word 0)) refl (ltb (length (b ∷ m)) length_bytes) refl (ltb most_log_bytes (n w b m)) refl
    (ltb (length (b ∷ m) - length_bytes) (n w b m)) refl
  where
    go :
        (s : Bool) → leb most_logs (get_or w logs_word 0) ≡ s → (t : Bool) → ltb (length (b ∷ m)) length_bytes ≡ t
        → (p : Bool) → ltb most_log_bytes (n w b m) ≡ p → (q : Bool) → ltb (length (b ∷ m) - length_bytes) (n w b m) ≡ q
        → outcome (fed (at Length w []) (b ∷ m))
        ≡ cond s (10, w) (cond t (1, w) (cond p (2, w) (cond q (1, w)
        (onward (add_of w (take (n w b m) (drop 4 (b ∷ m)))) (λ u. logs_in fuel u (drop (4 + n w b m) (b ∷ m)))))))
    go true e t d p f q g = limit w b m e
    go false e true d p f q g = cut_length w b m e (ltb-true (length (b ∷ m)) length_bytes d)
    go false e false d true f q g = too_long w b m e (ltb-false (length (b ∷ m)) length_bytes d) (ltb-true most_log_bytes (n w b m) f)
    go false e false d false f true g =
        cut_log w b m e (ltb-false (length (b ∷ m)) length_bytes d) (ltb-false most_log_bytes (n w b m) f) (ltb-true (length (b ∷ m) - length_bytes) (n w b m) g)
    go false e false d false f false g =
        ap outcome (log_read w b m e (ltb-false (length (b ∷ m)) length_bytes d) (ltb-false most_log_bytes (n w b m) f) (ltb-false (length (b ∷ m) - length_bytes) (n w b m) g))
        ∙ after (drop (4 + n w b m) (b ∷ m)) (λ u. logs_in fuel u (drop (4 + n w b m) (b ∷ m))) later (add_of w (take (n w b m) (drop 4 (b ∷ m))))

logs_read : (fuel : ℕ) (w l : List ℕ) → length l ≤ fuel → outcome (fed (at Length w []) l) ≡ logs_in fuel w l
unfolding logs_in fed end_number
logs_read zero w [] h = refl
logs_read zero w (b ∷ l) h = absurd (omega arith)
logs_read (suc fuel) w [] h = refl
logs_read (suc fuel) w (b ∷ m) h =
    log_step fuel w b m
    (λ u. logs_read fuel u (drop (4 + n w b m) (b ∷ m)) (omega (arith, length-drop (4 + n w b m) (b ∷ m))))

pub file_read : FileIsRead
unfolding file_from completed headed end_number
file_read w l = go (ltb (length l) header_bytes) refl
  where
    go :
        (t : Bool) → ltb (length l) header_bytes ≡ t
        → outcome (fed (start w) l) ≡ cond t (1, w) (onward (new_of w (number_at l 0 8) (get_or l 8 0)) (λ u. logs_in (length l) u (drop header_bytes l)))
    go true e = let h = ltb-true (length l) header_bytes e in ap outcome (gather Header w l [] refl (omega arith))
    go false e =
        let d = length-drop header_bytes l in
        ap outcome (whole Header w l refl (omega arith) (ltb-false (length l) header_bytes e))
        ∙ ap₂ (λ (a k : ℕ). outcome (fed (emptied (waiting (new_of w a k))) (drop header_bytes l))) (number_front 9 0 8 l (omega arith)) (get_or-take 9 l 8 0 (omega arith))
        ∙ after (drop header_bytes l) (λ u. logs_in (length l) u (drop header_bytes l)) (λ u. logs_read (length l) u (drop header_bytes l) (omega arith)) (new_of w (number_at l 0 8) (get_or l 8 0))
