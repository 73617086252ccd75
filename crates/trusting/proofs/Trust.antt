-- Trust over a whole recording, from demand 3 and lists. Assumes nothing.
use Rattle.std.specs.Prelude.{None}
use Prim.Native.Nat.{ℕ, zero, suc, ◌+◌, ◌^◌, ◌≤◌}
use native.Mathlib.Omega.{arith}
use native.Mathlib.Nat.{le_refl, zero-div}
use mathlib.Core.Path.{◌≡◌, refl, sym, ap, ◌∙◌}
use mathlib.Core.List.{List, [], map}
use mathlib.Core.Bool.{Bool, true, false, cond, ◌&&◌}
use lib.ListN.{take}
use lib.Dec.{ltb, eqb}
use borrow.Author.Tests.{lt-ltb, ltb-true, eq-eqb, ne_eqb, eqb-true, eqb-false}
use Rattle.std.specs.Prelude.{Option, None, Some}
use Rattle.std.specs.Bool.{then_some}
use Rattle.laws.specs.Words.{bit}
use Rattle.registers.specs.Files.{file_of, is_file, no_file, slot_of}
use Rattle.registers.specs.declared.RegisterFile.{RegisterFile}
use Rattle.definition.specs.Steps.{steps_of}
use Rattle.definition.specs.Visits.{fixed_record, log_of, visit_under, visit_of, number_of}
use Rattle.definition.specs.declared.Answer.{Answer}
use Rattle.definition.specs.declared.Answer.TheVariants.{Done}
use Rattle.definition.specs.declared.Event.{Event}
use Rattle.promises.specs.Refinement.{Refines, same, found_read, found_write, RefinesAll, Extends, AgreeOn}
use Rattle.promises.specs.Refinement as refinement
use Rattle.promises.specs.Calls.{Refusal, by_number, by_opcode, by_room_lem, Alike, refused, logged}
use Rattle.promises.proofs.Outcomes.{not_refused, not_complex, not_short}
use Rattle.promises.proofs.Refine.{steps_agree}
use Rattle.promises.proofs.Proved.{more_known_refines, more_known_refines_under, agreement_decides}
use Rattle.watching.specs.Verdicts.{judged, store_verdict, verdict_of}
use Rattle.watching.specs.Tallies.{counting, tally_of, total}
use Rattle.watching.specs.Traces.{Pair, most_pairs, full, answer_to, refusals, logged_by, verdicts_of, earlier, later, fresh, step_of, after_step, run_from, watch_of}
use Rattle.watching.specs.declared.verdicts.Variable.{Variable}
use Rattle.watching.specs.declared.verdicts.Verdict.{Verdict}
use Rattle.watching.specs.declared.verdicts.Verdict.TheVariants.{NoWrite, AddressUnknown, NoneTouched, PartTouched, WholeTouched}
use Rattle.watching.specs.declared.tallies.Tally.{Tally}
use Rattle.watching.specs.declared.watch.Watch.{Watch}
use Rattle.watching.proofs.Steps.{done_if}
use Rattle.trusting.specs.Merges.{shifted, merged}
use Rattle.trusting.specs.Promises.{Watched}
use Rattle.trusting.specs.Trust.{Along, end, next, Knowing, Stands, stays, found_none, found_part, found_whole, Upheld, refused_alike, stood, VerdictsStand, NoLater, NoEarlier, Trusted, WatchesTrusted, Agreeing, WatchesEqual}
use Rattle.trusting.proofs.Merging.{pair_watch, whole_watch, watch_first}

-- events that refine give verdicts that stand
judged_stands : (touched length : ℕ) → Stands AddressUnknown (judged touched length)
unfolding judged
judged_stands touched length = go (eqb touched 0) (eqb touched length)
  where
    go : (a b : Bool) → Stands AddressUnknown (cond a NoneTouched (cond b WholeTouched PartTouched))
    go true b = found_none
    go false true = found_whole
    go false false = found_part

store_stands : (v : Variable) (a n : ℕ) → Stands AddressUnknown (store_verdict v a n)
unfolding store_verdict
store_stands v a n = judged_stands _ _

verdict_stands : (v : Variable) {d e : Event} → Refines d e → Stands (verdict_of v d) (verdict_of v e)
unfolding verdict_of
verdict_stands v same = stays
verdict_stands v found_read = stays
verdict_stands v (found_write {a} {n}) = store_stands v a n

verdicts_along : (v : Variable) {ds es : List Event} → RefinesAll ds es → Along Stands (map (verdict_of v) ds) (map (verdict_of v) es)
verdicts_along v refinement.none = end
verdicts_along v (refinement.one h r) = next (verdict_stands v h) (verdicts_along v r)

-- what a visit answers
answered : (b f : List ℕ) (a : Answer) (l : List ℕ) → visit_of b f full 0 ≡ (a, l) → answer_to (b, f) ≡ a
unfolding answer_to
answered b f a l e = ap (λ (r : Answer × List ℕ). r.0) e

refusal_not_done : {a : Answer} (n : ℕ) → Refusal a → a ≡ Done n → ⊥
refusal_not_done n (by_number {k = k}) e = not_refused n k (sym e)
refusal_not_done n (by_opcode {o = o}) e = not_complex n o (sym e)
refusal_not_done n (by_room_lem {n = m}) e = not_short n m (sym e)

refusal_number : (b f : List ℕ) (a : Answer) (l : List ℕ) → Refusal a → visit_of b f full 0 ≡ (a, l) → number_of a ≡ 0 → ⊥
refusal_number b f a l r e z = refusal_not_done _ r (done_if b f a l (sym e) z)

logged_all : (p : Pair) → number_of (answer_to p) ≡ 0 → logged_by p ≡ log_of p.0 (file_of p.1)
unfolding logged_by
logged_all p e = rw (eq-eqb (number_of (answer_to p)) 0 e)

logged_none : (p : Pair) → (number_of (answer_to p) ≡ 0 → ⊥) → logged_by p ≡ []
unfolding logged_by
logged_none p h = rw (ne_eqb (number_of (answer_to p)) 0 h)

-- a pair whose file knows more
pair_upheld : (v : Variable) (p q : Pair) → Knowing p q → Upheld v p q
unfolding verdicts_of
pair_upheld v (b, f) (c, g) k =
    by (more_known_refines b f g full full 0 0 k.first_file k.second_file k.more (omega arith) (omega arith))
  where
    other : {a : Answer} {l : List ℕ} → visit_of b g full 0 ≡ (a, l) → answer_to (c, g) ≡ a
    other {a} {l} e = answered c g a l (rw (← k.same_record) e)

    by : Alike (visit_of b f full 0) (visit_of b g full 0) full full 0 0 (log_of b (file_of f)) (log_of b (file_of g)) → Upheld v (b, f) (c, g)
    by (refused a r x y) =
        refused_alike (λ z. refusal_number b f a _ r x (sym (ap number_of (answered b f a _ x)) ∙ z)) (answered b f a _ x ∙ sym (other y))
    by (logged x y r) =
        let first = ap number_of (answered b f _ _ x) in
        let second = ap number_of (other y) in
        stood first second
        (rw (logged_all (b, f) first, logged_all (c, g) second, ← k.same_record) (verdicts_along v r))

pub verdicts_stand : VerdictsStand
verdicts_stand v ps qs end = end
verdicts_stand v ps qs (next {x = p} {y = q} {xs = ps'} {ys = qs'} h r) = next (pair_upheld v p q h) (verdicts_stand v ps' qs' r)

-- counts of verdicts that stand
record Counted (s t : Tally) : Type 0 where
  unknown : t.unknown ≤ s.unknown
  none : s.none ≤ t.none
  part : s.part ≤ t.part
  whole : s.whole ≤ t.whole
  writes : total s ≡ total t

counted : {vs us : List Verdict} → Along Stands vs us → Counted (tally_of vs) (tally_of us)
unfolding tally_of counting
counted end = record { unknown = le_refl 0; none = le_refl 0; part = le_refl 0; whole = le_refl 0; writes = refl }
counted (next {x = NoWrite} stays r) = counted r
counted (next {x = AddressUnknown} stays r) = let c = counted r in omega (arith, c)
counted (next {x = NoneTouched} stays r) = let c = counted r in omega (arith, c)
counted (next {x = PartTouched} stays r) = let c = counted r in omega (arith, c)
counted (next {x = WholeTouched} stays r) = let c = counted r in omega (arith, c)
counted (next found_none r) = let c = counted r in omega (arith, c)
counted (next found_part r) = let c = counted r in omega (arith, c)
counted (next found_whole r) = let c = counted r in omega (arith, c)

-- where there were some, there are some
some_more : (m n : ℕ) → m ≤ n → ltb 0 m ≡ true → ltb 0 n ≡ true
some_more m n h e = lt-ltb 0 n (omega (arith, ltb-true 0 m e))

never_both : true ≡ false → ⊥
never_both e = let q : ◌≡◌ {A = ℕ} 0 1 = cc in omega arith

-- one pair in front of numbers that are trusted
first_no_later : (s t : Bool) → (s ≡ true → t ≡ true) → (x y : Option ℕ) → NoLater x y → NoLater (earlier (then_some s 0) (shifted 1 x)) (earlier (then_some t 0) (shifted 1 y))
first_no_later true true i x y h = (0, refl, omega arith)
first_no_later true false i x y h = absurd (never_both (sym (i refl)))
first_no_later false true i (Some k) y h = (0, refl, omega arith)
first_no_later false true i None y h = tt
first_no_later false false i (Some k) y h = (1 + h.0, ap (shifted 1) h.1, omega (arith, h.2))
first_no_later false false i None y h = tt

last_no_earlier : (s t : Bool) → (s ≡ true → t ≡ true) → (x y : Option ℕ) → NoEarlier x y → NoEarlier (later (then_some s 0) (shifted 1 x)) (later (then_some t 0) (shifted 1 y))
last_no_earlier s t i (Some k) y h = (1 + h.0, ap (λ z. later (then_some t 0) (shifted 1 z)) h.1, omega (arith, h.2))
last_no_earlier true true i None (Some j) h = (1 + j, refl, omega arith)
last_no_earlier true true i None None h = (0, refl, omega arith)
last_no_earlier true false i None y h = absurd (never_both (sym (i refl)))
last_no_earlier false t i None y h = tt

module _ (v : Variable) where
  pair_counted : {p q : Pair} → Upheld v p q → Counted (tally_of (verdicts_of v p)) (tally_of (verdicts_of v q)) × (refusals (answer_to p) ≡ refusals (answer_to q))
  unfolding verdicts_of
  pair_counted {p} {q} (refused_alike h e) =
      let k : number_of (answer_to q) ≡ 0 → ⊥ = λ z. h (ap number_of e ∙ z) in
      (rw (logged_none p h, logged_none q k) (counted end), ap refusals e)
  pair_counted {p} {q} (stood x y s) = (counted s, rw (eq-eqb (number_of (answer_to p)) 0 x, eq-eqb (number_of (answer_to q)) 0 y))

  pair_trusted : {p q : Pair} {s t : Watch} → Upheld v p q → Trusted s t → Trusted (merged (pair_watch v p) s) (merged (pair_watch v q) t)
  unfolding merged pair_watch
  pair_trusted {p} {q} {s} {t} u h =
      let c = pair_counted u in
      record {
        pairs = omega (arith, h.pairs);
        unknown = omega (arith, h.unknown, c.0.unknown);
        none = omega (arith, h.none, c.0.none);
        part = omega (arith, h.part, c.0.part);
        whole = omega (arith, h.whole, c.0.whole);
        writes = omega (arith, h.writes, c.0.writes);
        refused = omega (arith, h.refused, c.1);
        first =
            first_no_later (ltb 0 (tally_of (verdicts_of v p)).part) (ltb 0 (tally_of (verdicts_of v q)).part) (some_more _ _ c.0.part)
            s.first t.first h.first;
        last =
            last_no_earlier (ltb 0 (tally_of (verdicts_of v p)).whole) (ltb 0 (tally_of (verdicts_of v q)).whole) (some_more _ _ c.0.whole)
            s.last t.last h.last;
      }

  whole_trusted : {ps qs : List Pair} → Along (Upheld v) ps qs → Trusted (whole_watch v ps) (whole_watch v qs)
  unfolding whole_watch fresh
  whole_trusted end =
      record {
        pairs = refl;
        unknown = le_refl 0;
        none = le_refl 0;
        part = le_refl 0;
        whole = le_refl 0;
        writes = refl;
        refused = refl;
        first = tt;
        last = tt;
      }
  whole_trusted (next h r) = pair_trusted h (whole_trusted r)

along_take : {R : Pair → Pair → Type 0} (n : ℕ) {ps qs : List Pair} → Along R ps qs → Along R (take n ps) (take n qs)
along_take zero k = end
along_take (suc n) end = end
along_take (suc n) (next h r) = next h (along_take n r)

-- past the limit both watches are those of the first so many pairs; over any number, so that nothing computes with it
watches_kept : (v : Variable) (n : ℕ) → n ≡ most_pairs → (ps qs : List Pair) → Watched v → Along Knowing ps qs → Trusted (watch_of v ps) (watch_of v qs)
watches_kept v n e ps qs w k =
    rw (watch_first v w n ps e, watch_first v w n qs e) (whole_trusted v (verdicts_stand v (take n ps) (take n qs) (along_take n k)))

pub watches_trusted : WatchesTrusted
watches_trusted v ps qs w k = watches_kept v most_pairs refl ps qs w k

-- Files that agree. A refused pair is refused alike under every well-formed file: a file that knows nothing is extended by all.
bit_none : (k : ℕ) → bit 0 k ≡ false
unfolding bit
bit_none k = rw (zero-div (2 ^ k))

and_false : (t : Bool) → (t && false) ≡ false
and_false true = refl
and_false false = refl

pub knows_nothing : (f : RegisterFile) (k : ℕ) → f.known ≡ 0 → slot_of f k ≡ None
unfolding slot_of
knows_nothing f k e = simp (e, bit_none k, and_false)

pub nothing_extended : (f g : RegisterFile) → f.known ≡ 0 → Extends f g
nothing_extended f g e k = rw (knows_nothing f k e) tt

none_known : no_file.known ≡ 0
unfolding no_file
none_known = refl

-- a visit under a file's bytes that are well-formed is that under the file
under : (b f : List ℕ) → is_file f ≡ true → visit_of b f full 0 ≡ visit_under b (file_of f) full 0
under b f e = rw e

module _ (b f g : List ℕ) (hf : is_file f ≡ true) (hg : is_file g ≡ true) where
  abbrev blindly : Answer × List ℕ
  blindly = visit_under b no_file full 0

  from_nothing : (h : List ℕ) → Alike blindly (visit_under b (file_of h) full 0) full full 0 0 (log_of b no_file) (log_of b (file_of h))
  from_nothing h = more_known_refines_under b no_file (file_of h) full full 0 0 (nothing_extended no_file (file_of h) none_known) (omega arith) (omega arith)

  refused_alike_under : (number_of (answer_to (b, f)) ≡ 0 → ⊥) → answer_to (b, f) ≡ answer_to (b, g)
  refused_alike_under h = by (from_nothing f) (from_nothing g)
    where
      by :
          Alike blindly (visit_under b (file_of f) full 0) full full 0 0 (log_of b no_file) (log_of b (file_of f))
          → Alike blindly (visit_under b (file_of g) full 0) full full 0 0 (log_of b no_file) (log_of b (file_of g))
          → answer_to (b, f) ≡ answer_to (b, g)
      by (logged x y r) k = absurd (h (ap number_of (answered b f _ _ (under b f hf ∙ y))))
      by (refused a r x y) (logged x' y' r') = absurd (refusal_not_done _ r (ap (λ (o : Answer × List ℕ). o.0) (sym x ∙ x')))
      by (refused a r x y) (refused a' r' x' y') =
          answered b f a _ (under b f hf ∙ y) ∙ ap (λ (o : Answer × List ℕ). o.0) (sym x ∙ x') ∙ sym (answered b g a' _ (under b g hg ∙ y'))

  -- what is logged under f is read alike under g
  module _ (agree : AgreeOn (file_of f) (file_of g) (logged_by (b, f))) where
    logs_equal : AgreeOn (file_of f) (file_of g) (log_of b (file_of f)) → log_of b (file_of f) ≡ log_of b (file_of g)
    unfolding log_of
    logs_equal h = steps_agree (file_of f) (file_of g) (steps_of (fixed_record b)) h

    answers_agree : visit_of b f full 0 ≡ visit_of b g full 0 → answer_to (b, f) ≡ answer_to (b, g)
    unfolding answer_to
    answers_agree e = ap (λ (r : Answer × List ℕ). r.0) e

    same_pair : (answer_to (b, f) ≡ answer_to (b, g)) × (logged_by (b, f) ≡ logged_by (b, g))
    same_pair = go (eqb (number_of (answer_to (b, f))) 0) refl
      where
        go : (t : Bool) → eqb (number_of (answer_to (b, f))) 0 ≡ t → (answer_to (b, f) ≡ answer_to (b, g)) × (logged_by (b, f) ≡ logged_by (b, g))
        go true e =
            let z = eqb-true (number_of (answer_to (b, f))) 0 e in
            let a : AgreeOn (file_of f) (file_of g) (log_of b (file_of f)) = rw (← (logged_all (b, f) z)) agree in
            let same = answers_agree (agreement_decides b f g full 0 hf hg a) in
            (same, logged_all (b, f) z ∙ logs_equal a ∙ sym (logged_all (b, g) (sym (ap number_of same) ∙ z)))
        go false e =
            let n : number_of (answer_to (b, f)) ≡ 0 → ⊥ = eqb-false (number_of (answer_to (b, f))) 0 e in
            let same = refused_alike_under n in
            (same, logged_none (b, f) n ∙ sym (logged_none (b, g) (λ z. n (ap number_of same ∙ z))))

pair_equal : (p q : Pair) → Agreeing p q → (answer_to p ≡ answer_to q) × (logged_by p ≡ logged_by q)
pair_equal (b, f) (c, g) k =
    let s = same_pair b f g k.first_file k.second_file k.agree in
    let turn : ◌≡◌ {A = Pair} (b, g) (c, g) = ap (λ (l : List ℕ). (l, g)) k.same_record in
    (s.0 ∙ ap answer_to turn, s.1 ∙ ap logged_by turn)

step_equal : (w : Watch) (p q : Pair) → Agreeing p q → after_step w p ≡ after_step w q
unfolding after_step step_of verdicts_of
step_equal w p q k = let e = pair_equal p q k in rw (e.0, e.1)

run_equal : (w : Watch) {ps qs : List Pair} → Along Agreeing ps qs → run_from w ps ≡ run_from w qs
unfolding run_from
run_equal w end = refl
run_equal w (next {x = p} {y = q} h r) = rw (step_equal w p q h) (run_equal (after_step w q) r)

pub watches_equal : WatchesEqual
unfolding watch_of
watches_equal v ps qs k = run_equal (fresh v) k
