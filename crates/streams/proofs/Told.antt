-- What a call takes, which numbers it answers, and demand 3 over streams. Assumes nothing.
use Prim.Native.Nat.{ℕ, suc, ◌+◌, ◌≤◌, ◌<◌}
use native.Mathlib.Omega.{arith}
use borrow.Author.Tests.{ltb-true, lt-ltb, eqb-true, eq-eqb}
use mathlib.Core.Path.{◌≡◌, refl, sym, ap, ◌∙◌}
use mathlib.Core.Logic.{⊎_elim, ◌⊎◌, inl, inr}
use mathlib.Core.List.{List, [], ◌∷◌, ◌++◌, append_assoc}
use mathlib.Core.Bool.{Bool, true, false, not, cond, ◌&&◌}
use lib.ListN.{length, get_or, replicate, length-replicate}
use lib.Dec.{ltb, eqb}
use Rattle.laws.specs.Tests.{first_of}
use Rattle.laws.specs.Lists.{flat}
use Rattle.laws.specs.Lending.{splice}
use Rattle.std.proofs.lemmas.Bool.{and_parts, cond_both}
use Rattle.laws.proofs.Every.{Every, every_at}
use Rattle.registers.specs.Files.{file_kind, based_kind, file_bytes, based_bytes, file_length, file_of, is_file}
use Rattle.registers.specs.declared.RegisterFile.{RegisterFile}
use Rattle.everyday.specs.Rows.{unlisted}
use Rattle.record.specs.Records.{record_length, is_record, record_of, outside, lacks_digest}
use Rattle.definition.specs.Behaviors.{complex}
use Rattle.definition.specs.Limits.{most_bytes}
use Rattle.definition.specs.Refusals.{nameless, sizeless}
use Rattle.definition.specs.Logs.{bytes_of}
use Rattle.definition.specs.Visits.{fixed_record, log_of, refusal_of, visit_by}
use Rattle.definition.specs.declared.Answer.{Answer}
use Rattle.definition.specs.declared.Answer.TheVariants.{Done}
use Rattle.event.specs.Held.{Bytes}
use Rattle.promises.specs.Refinement.{Extends}
use Rattle.promises.specs.Calls.{Alike, refused, logged}
use Rattle.promises.proofs.Demands.{by_refines}
use Rattle.promises.proofs.Rooms.{room_enough}
use Rattle.promises.proofs.Outcomes.{number_is, spliced}
use Rattle.streams.specs.Cuts.{Saying, said_by, Told, before, Fed, waits, says, stops, told_of, fed_from, front_by, on_front, Front, ended, unknown, inside, whole}
use Rattle.streams.specs.Streams.{length_of, of_file, Said, unknown_kind, bad_file, said_at, record_says, meaning, answers_of, Outcome, outcome_of, feed}
use Rattle.streams.specs.Promises.{Sound, Taking, UnknownNext, Beside, nothing, records, files, bad, BadFile, logging, SaidRefines, same, AllRefine, none, one}
use Rattle.streams.specs.Promises as promised
use Rattle.streams.proofs.Cut.{Okay, OkFed, ok_fed, unrolled, whole_front}

-- a finished answer's number
abbrev Finished : Said → Type 0
Finished a = (a.number ≡ 1 → ⊥) × (a.number ≡ 7 → ⊥) × (a.number ≡ 8 → ⊥)

numbered : (t2 t9 t3 t4 t5 t6 : Bool) (k : ℕ)
    → k ≡ first_of ((false, 1) ∷ (t2, 2) ∷ (t9, unlisted) ∷ (t3, 3) ∷ (t4, 4) ∷ (t5, 5) ∷ (t6, 6) ∷ (false, 7) ∷ [])
    → (k ≡ 1 → ⊥) × (k ≡ 7 → ⊥) × (k ≡ 8 → ⊥)
unfolding first_of
numbered true t9 t3 t4 t5 t6 k e = ((λ (h : k ≡ 1). omega arith), (λ (h : k ≡ 7). omega arith), (λ (h : k ≡ 8). omega arith))
numbered false true t3 t4 t5 t6 k e = ((λ (h : k ≡ 1). omega arith), (λ (h : k ≡ 7). omega arith), (λ (h : k ≡ 8). omega arith))
numbered false false true t4 t5 t6 k e = ((λ (h : k ≡ 1). omega arith), (λ (h : k ≡ 7). omega arith), (λ (h : k ≡ 8). omega arith))
numbered false false false true t5 t6 k e = ((λ (h : k ≡ 1). omega arith), (λ (h : k ≡ 7). omega arith), (λ (h : k ≡ 8). omega arith))
numbered false false false false true t6 k e = ((λ (h : k ≡ 1). omega arith), (λ (h : k ≡ 7). omega arith), (λ (h : k ≡ 8). omega arith))
numbered false false false false false true k e = ((λ (h : k ≡ 1). omega arith), (λ (h : k ≡ 7). omega arith), (λ (h : k ≡ 8). omega arith))
numbered false false false false false false k e = ((λ (h : k ≡ 1). omega arith), (λ (h : k ≡ 7). omega arith), (λ (h : k ≡ 8). omega arith))

abbrev room : List ℕ
room = replicate most_bytes 0

roomy : 0 + most_bytes ≤ length room
roomy = omega (arith, length-replicate {A = ℕ} most_bytes 0)

record_finished : (f b : List ℕ) → is_record b ≡ true → Finished (record_says f b)
unfolding record_says visit_by refusal_of
record_finished f b h =
    numbered (outside (record_of b)) (lacks_digest b) (not (is_file f)) (complex (fixed_record b)) (nameless (fixed_record b)) (sizeless (fixed_record b)) _
    (number_is (refusal_of (not (is_file f)) b (file_of f) room 0) (record_of b).opcode (bytes_of (log_of b (file_of f))) room 0
    ∙ rw (h, room_enough b (file_of f) room 0 roomy))

-- a whole item is a record, or of a file's kind
pub record_item : (item : List ℕ) → length item ≡ length_of (get_or item 0 0) → 0 < length item → of_file (get_or item 0 0) ≡ false → is_record item ≡ true
unfolding is_record length_of
record_item item e h t =
    let long : length item ≡ record_length (get_or item 0 0) = rw t at e in
    rw (lt-ltb 0 (length item) h, eq-eqb (length item) (record_length (get_or item 0 0)) long)

-- what a whole item means, over any property of a file and of a byte that good files and bytes have
module _ (Q : List ℕ → Type 0) (B : ℕ → Type 0) (keep : (item : List ℕ) → is_file item ≡ true → Every B item → Q item) where
  abbrev Meant : List ℕ × Saying Said → Type 0
  Meant o = Okay length_of meaning unknown_kind Finished Q B o.1 × Q o.0

  items_okay : (f item : List ℕ) → length item ≡ length_of (get_or item 0 0) → 0 < length item → Every B item → Q f → Meant (meaning f item)
  unfolding meaning
  items_okay f item e h bs q =
      cond_both (of_file (get_or item 0 0)) _ _ Meant
      (λ t. cond_both (is_file item) _ _ Meant (λ u. (tt, keep item u bs)) (λ u. (((λ (z : 3 ≡ 1). omega arith), (λ (z : 3 ≡ 7). omega arith), (λ (z : 3 ≡ 8). omega arith)), q)))
      (λ t. (record_finished f item (record_item item e h t), q))

not_zero : (k : ℕ) → suc k ≡ 0 → ⊥
not_zero k e = omega arith

seven : ◌≡◌ {A = ℕ} 7 1 → ⊥
seven e = omega arith

no_true : false ≡ true → ⊥
no_true e = let z : ◌≡◌ {A = ℕ} 0 1 = cc in omega arith

no_false : true ≡ false → ⊥
no_false e = no_true (sym e)

abbrev Latest : List ℕ → Type 0
Latest f = (f ≡ []) ⊎ (is_file f ≡ true)

abbrev AnyByte : ℕ → Type 0
AnyByte b = Unit

anything : (l : List ℕ) → Every AnyByte l
anything [] = tt
anything (b ∷ l) = (tt, anything l)

taking : (c : List ℕ) (o : Fed (List ℕ) Said) → OkFed length_of meaning unknown_kind Finished Latest AnyByte c o
    → Taking c (outcome_of (length c) o) × Sound (outcome_of (length c) o).next × UnknownNext c (outcome_of (length c) o)
taking c (waits g l) k =
    (record { within = omega arith; all = λ h e. refl; some = λ h. absurd (no_true h); number = λ h. absurd (no_true h) }, record { parted = k.0; latest = k.1 }, λ e. absurd (not_zero 0 (sym e)))
taking c (says a g n) k =
    (record { within = k.2; all = λ h e. absurd (no_false h); some = λ h. k.1; number = λ h. k.0 }, record { parted = inl refl; latest = k.3 }, λ e. absurd (k.0.0 e))
taking c (stops g n) k =
    (record { within = omega (arith, k.0); all = λ h e. absurd (not_zero 0 e); some = λ h. absurd (no_true h); number = λ h. absurd (no_true h) }, record { parted = inl refl; latest = k.2 }, λ e. (k.0, k.1))

pub calls_take : promised.CallsTake
unfolding feed
calls_take r c n h =
    cond_both r.stopped _ _ P (λ t. (record { within = omega arith; all = λ h e. absurd (not_zero 0 e); some = λ h. absurd (no_true h); number = λ h. absurd (no_true h) }, h, λ s. absurd (no_false (sym t ∙ s))))
    (λ t. cond_both (ltb n most_bytes) _ _ P (λ u. (record { within = omega arith; all = λ h e. absurd (not_zero 6 e); some = λ h. absurd (no_true h); number = λ h. absurd (no_true h) }, h, λ s e. absurd (seven e)))
    (λ u.
    let fed = ok_fed length_of meaning unknown_kind Finished Latest AnyByte (items_okay Latest AnyByte (λ item g bs. inr g)) r.file r.kept c h.parted h.latest (anything r.kept) (anything c) in
    let k = taking c (fed_from length_of meaning r.file r.kept c) fed in
    (k.0, k.1, λ s. k.2)))
  where
    P : Outcome → Type 0
    P o = Taking c o × Sound o.next × (r.stopped ≡ false → UnknownNext c o)

-- bytes stay bytes
abbrev IsByte : ℕ → Type 0
IsByte b = b < 256

each_byte : (l : List ℕ) → Bytes l → Every IsByte l
each_byte [] h = tt
each_byte (b ∷ l) h = (h 0, each_byte l (λ i. h (suc i)))

all_bytes : (l : List ℕ) → Every IsByte l → Bytes l
all_bytes l h = every_at IsByte l 0 h (omega arith)

bytes_of_lem : (c : List ℕ) (o : Fed (List ℕ) Said) → OkFed length_of meaning unknown_kind Finished Bytes IsByte c o
    → Bytes (outcome_of (length c) o).next.kept × Bytes (outcome_of (length c) o).next.file
bytes_of_lem c (waits g l) k = (all_bytes l k.2, k.1)
bytes_of_lem c (says a g n) k = (all_bytes [] tt, k.3)
bytes_of_lem c (stops g n) k = (all_bytes [] tt, k.2)

pub bytes_stay : promised.BytesStay
unfolding feed
bytes_stay r c n p hk hf hc =
    cond_both r.stopped _ _ P (λ t. (hk, hf))
    (λ t. cond_both (ltb n most_bytes) _ _ P (λ u. (hk, hf))
    (λ u. bytes_of_lem c (fed_from length_of meaning r.file r.kept c)
    (ok_fed length_of meaning unknown_kind Finished Bytes IsByte (items_okay Bytes IsByte (λ item g bs. all_bytes item bs)) r.file r.kept c p hf (each_byte r.kept hk) (each_byte c hc))))
  where
    P : Outcome → Type 0
    P o = Bytes o.next.kept × Bytes o.next.file

-- DEMAND 3. The latest files of two streams: none in both, or good ones, the second of which knows all that the first knows
abbrev Latests : List ℕ → List ℕ → Type 0
Latests f g = (f ≡ g) ⊎ ((is_file f ≡ true) × (is_file g ≡ true) × Extends (file_of f) (file_of g))

abbrev of : List ℕ → List ℕ → List Said
of f x = (told_of length_of meaning unknown_kind f x).answers

-- an item in front
item_told : (f item rest : List ℕ) → 0 < length item → length item ≡ length_of (get_or item 0 0)
    → of f (item ++ rest) ≡ said_by (meaning f item).1 ++ of (meaning f item).0 rest
item_told f item rest h e =
    ap (λ (t : Told Said). t.answers)
    (unrolled length_of meaning unknown_kind f (item ++ rest)
    ∙ ap (λ r. on_front unknown_kind r (λ i x. before (said_by (meaning f i).1) (told_of length_of meaning unknown_kind (meaning f i).0 x))) (whole_front length_of meaning unknown_kind item rest h e))

-- no kind is both a record's and a file's
apart : (k : ℕ) → 0 < record_length k → of_file k ≡ false
unfolding record_length file_length of_file
apart k h = by (eqb k file_kind) (eqb k based_kind) refl refl
  where
    by : (s t : Bool) → eqb k file_kind ≡ s → eqb k based_kind ≡ t → ltb 0 (cond s file_bytes (cond t based_bytes 0)) ≡ false
    by true t e i = let none : ◌<◌ 0 0 = rw (eqb-true k file_kind e) at h in absurd (omega arith)
    by false true e i = let none : ◌<◌ 0 0 = rw (eqb-true k based_kind i) at h in absurd (omega arith)
    by false false e i = refl

record_long : (b : List ℕ) → is_record b ≡ true → (0 < length b) × (length b ≡ length_of (get_or b 0 0)) × (of_file (get_or b 0 0) ≡ false)
unfolding is_record length_of
record_long b h =
    let some : 0 < length b = ltb-true 0 (length b) ((and_parts _ _ h).0) in
    let long : length b ≡ record_length (get_or b 0 0) = eqb-true (length b) (record_length (get_or b 0 0)) ((and_parts (ltb 0 (length b)) _ h).1) in
    let no_file_lem : of_file (get_or b 0 0) ≡ false = apart (get_or b 0 0) (omega arith) in
    (some, rw no_file_lem long, no_file_lem)

file_long : (f : List ℕ) → is_file f ≡ true → (0 < length f) × (length f ≡ length_of (get_or f 0 0)) × (of_file (get_or f 0 0) ≡ true)
unfolding is_file length_of of_file
file_long f h =
    let both = (and_parts (ltb 0 (length f) && eqb (length f) (file_length (get_or f 0 0))) _ h).0 in
    let some : 0 < length f = ltb-true 0 (length f) ((and_parts _ _ both).0) in
    let long : length f ≡ file_length (get_or f 0 0) = eqb-true (length f) (file_length (get_or f 0 0)) ((and_parts (ltb 0 (length f)) _ both).1) in
    let file : ltb 0 (file_length (get_or f 0 0)) ≡ true = lt-ltb 0 (file_length (get_or f 0 0)) (omega arith) in
    (some, rw file long, file)

file_some : (k : ℕ) → of_file k ≡ true → 0 < length_of k
unfolding length_of of_file
file_some k h = rw h (ltb-true 0 (file_length k) h)

record_told : (f b rest : List ℕ) → is_record b ≡ true → of f (b ++ rest) ≡ record_says f b ∷ of f rest
unfolding meaning
record_told f b rest h = let l = record_long b h in item_told f b rest l.0 l.1 ∙ rw l.2

file_told : (f g rest : List ℕ) → is_file g ≡ true → of f (g ++ rest) ≡ of g rest
unfolding meaning
file_told f g rest h = let l = file_long g h in item_told f g rest l.0 l.1 ∙ rw (l.2, h)

bad_told : (f g rest : List ℕ) → BadFile g → of f (g ++ rest) ≡ bad_file ∷ of f rest
unfolding meaning
bad_told f g rest l = item_told f g rest (omega (arith, l.0, file_some (get_or g 0 0) l.1)) l.0 ∙ rw (l.1, l.2)

-- one record under two files
wrote : (b : List ℕ) (f : RegisterFile) → said_at 0 (Done (length (bytes_of (log_of b f))), splice room 0 (bytes_of (log_of b f))) ≡ logging (bytes_of (log_of b f))
wrote b f = ap logging (spliced (bytes_of (log_of b f)) room 0 (room_enough b f room 0 roomy)).inside

alike_said : (b : List ℕ) (f g : RegisterFile) (o u : Answer × List ℕ) → Alike o u room room 0 0 (log_of b f) (log_of b g) → SaidRefines (said_at 0 o) (said_at 0 u)
alike_said b f g o u (refused a r e h) = rw (e, h) same
alike_said b f g o u (logged e h r) = rw (e, h, wrote b f, wrote b g) (promised.logged (log_of b f) (log_of b g) r)

record_refines : (b f g : List ℕ) → Latests f g → SaidRefines (record_says f b) (record_says g b)
unfolding record_says
record_refines b f g l =
    ⊎_elim (λ (e : f ≡ g). rw e same)
    (λ (h : (is_file f ≡ true) × (is_file g ≡ true) × Extends (file_of f) (file_of g)).
    rw (h.0, h.1) (alike_said b (file_of f) (file_of g) _ _ (by_refines false b (file_of f) (file_of g) room room 0 0 h.2 roomy roomy)))
    l

-- bytes that are no whole item are told alike under any file
tail_told : (z : List ℕ) → ((item rest : List ℕ) → front_by length_of z ≡ whole item rest → ⊥) → (f g : List ℕ) → of f z ≡ of g z
tail_told z cut f g =
    ap (λ (t : Told Said). t.answers)
    (unrolled length_of meaning unknown_kind f z ∙ by (front_by length_of z) refl ∙ sym (unrolled length_of meaning unknown_kind g z))
  where
    by : (r : Front) → front_by length_of z ≡ r
        → on_front unknown_kind r (λ i x. before (said_by (meaning f i).1) (told_of length_of meaning unknown_kind (meaning f i).0 x))
        ≡ on_front unknown_kind r (λ i x. before (said_by (meaning g i).1) (told_of length_of meaning unknown_kind (meaning g i).0 x))
    by ended e = refl
    by unknown e = refl
    by inside e = refl
    by (whole item rest) e = absurd (cut item rest e)

all_same : (xs : List Said) → AllRefine xs xs
all_same [] = none
all_same (a ∷ xs) = one same (all_same xs)

module _ (z : List ℕ) (cut : (item rest : List ℕ) → front_by length_of z ≡ whole item rest → ⊥) where
  more : (x y : List ℕ) → (x ++ y) ++ z ≡ x ++ (y ++ z)
  more x y = append_assoc x y z

  beside : (f g : List ℕ) (xs ys : List (List ℕ)) → Latests f g → Beside xs ys → AllRefine (of f (flat xs ++ z)) (of g (flat ys ++ z))
  unfolding flat
  beside f g _ _ l nothing = rw (tail_told z cut f g) (all_same (of g z))
  beside f g _ _ l (records {xs} {ys} b h t) =
      rw (more b (flat xs), more b (flat ys), record_told f b (flat xs ++ z) h, record_told g b (flat ys ++ z) h) (one (record_refines b f g l) (beside f g xs ys l t))
  beside f g _ _ l (files {xs} {ys} u v h k m t) =
      rw (more u (flat xs), more v (flat ys), file_told f u (flat xs ++ z) h, file_told g v (flat ys ++ z) k) (beside u v xs ys (inr (h, k, m)) t)
  beside f g _ _ l (bad {xs} {ys} u v h k t) =
      rw (more u (flat xs), more v (flat ys), bad_told f u (flat xs ++ z) h, bad_told g v (flat ys ++ z) k) (one same (beside f g xs ys l t))

pub streams_refine : promised.StreamsRefine
unfolding answers_of
streams_refine xs ys z h cut = beside z cut [] [] xs ys (inl refl) h
