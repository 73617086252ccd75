-- A block is its single calls. Assumes nothing.
use Prim.Native.Nat.{ℕ, ◌+◌}
use native.Mathlib.Omega.{arith}
use native.Mathlib.Nat.{add_assoc, add-zero}
use mathlib.Core.Path.{◌≡◌, refl, sym, ap, ◌∙◌}
use mathlib.Core.List.{List, [], ◌∷◌}
use mathlib.Core.Bool.{Bool, true, false, cond}
use lib.ListN.{length, take, drop}
use lib.Dec.{eqb}
use Rattle.laws.specs.Lending.{splice}
use Rattle.std.proofs.lemmas.Bool.{cond_both}
use Rattle.registers.specs.declared.RegisterFile.{RegisterFile}
use Rattle.record.specs.Records.{record_of}
use Rattle.definition.specs.Refusals.{no_room}
use Rattle.definition.specs.Logs.{bytes_of}
use Rattle.definition.specs.Visits.{log_of, refusal_of, outcome, visit_by, visit_under}
use Rattle.definition.specs.declared.Answer.{Answer}
use Rattle.definition.specs.declared.Answer.TheVariants.{Done, Refused, Complex, Short}
use Rattle.promises.specs.Calls.{by_number, by_opcode, by_room_lem, Refusal}
use Rattle.promises.proofs.Outcomes.{refused_is}
use Rattle.promises.proofs.Whole.{visit_written}
use Rattle.block.specs.Blocks.{is_seven, logged_by, Block, block_from}
use Rattle.block.specs.Promises.{sum_of, Singly, Counting, through, full, on, Blocks}
use Rattle.block.specs.Promises as promised
use Rattle.block.proofs.Lists.{same_part, same_front, same_end}

-- what a single visit does, whatever it answers
abbrev log_by : List ℕ → RegisterFile → Answer → List ℕ
log_by b f (Done n) = bytes_of (log_of b f)
log_by b f (Refused k) = []
log_by b f (Complex o) = []
log_by b f (Short n) = []

pub record Single (b : List ℕ) (f : RegisterFile) (p : List ℕ) (s : ℕ) (a : Answer) (new : List ℕ) : Type 0 where
  pub count : logged_by a ≡ length (log_by b f a)
  pub long : length new ≡ length p
  pub before : take s new ≡ take s p
  pub inside : take (logged_by a) (drop s new) ≡ log_by b f a
  pub behind : drop (s + logged_by a) new ≡ drop (s + logged_by a) p

module _ (b : List ℕ) (f : RegisterFile) (p : List ℕ) (s : ℕ) where
  pub leaves : (a : Answer) (new : List ℕ) → Refusal a → visit_under b f p s ≡ (a, new) → new ≡ p
  unfolding visit_by
  leaves a new r e = refused_is (refusal_of false b f p s) (record_of b).opcode (bytes_of (log_of b f)) p s a new r e

  unchanged : (a : Answer) (new : List ℕ) → logged_by a ≡ 0 → log_by b f a ≡ [] → new ≡ p → Single b f p s a new
  unchanged a new z l w =
      record {
        count = rw (z, l);
        long = ap length w;
        before = ap (take s) w;
        inside = rw (z, l);
        behind = ap (drop (s + logged_by a)) w;
      }

  single_by : (a : Answer) (new : List ℕ) → visit_under b f p s ≡ (a, new) → Single b f p s a new
  single_by (Done n) new e =
      let w = visit_written false b f p s n new e in
      record { count = w.count; long = w.long; before = w.before; inside = w.inside; behind = w.behind }
  single_by (Refused k) new e = unchanged (Refused k) new refl refl (leaves (Refused k) new by_number e)
  single_by (Complex o) new e = unchanged (Complex o) new refl refl (leaves (Complex o) new by_opcode e)
  single_by (Short n) new e = unchanged (Short n) new refl refl (leaves (Short n) new by_room_lem e)

  pub single : Single b f p s (visit_under b f p s).0 (visit_under b f p s).1
  single = single_by (visit_under b f p s).0 (visit_under b f p s).1 refl

-- the answer asks the buffer for its length alone
module _ (k o : ℕ) (l p q : List ℕ) (s : ℕ) where
  abbrev chosen : Bool → Bool → Bool → List ℕ → Answer
  chosen t u v b = (cond {A = Answer × List ℕ} t (Done (length l), splice b s l) (cond u (Complex o, b) (cond v (Short (length l), b) (Refused k, b)))).0

  outcome_answer : (outcome k o l p s).0 ≡ (outcome k o l q s).0
  unfolding outcome
  outcome_answer = go (eqb k 0) (eqb k 4) (eqb k 7)
    where
      go : (t u v : Bool) → chosen t u v p ≡ chosen t u v q
      go true u v = refl
      go false true v = refl
      go false false true = refl
      go false false false = refl

module _ (b : List ℕ) (f : RegisterFile) (p q : List ℕ) (s : ℕ) (same : length q ≡ length p) where
  same_refusal : refusal_of false b f q s ≡ refusal_of false b f p s
  unfolding refusal_of no_room
  same_refusal = rw same

  same_answer : (visit_under b f q s).0 ≡ (visit_under b f p s).0
  unfolding visit_by
  same_answer =
      outcome_answer (refusal_of false b f q s) (record_of b).opcode (bytes_of (log_of b f)) q p s
      ∙ ap (λ (k : ℕ). (outcome k (record_of b).opcode (bytes_of (log_of b f)) p s).0) same_refusal

  same_bytes :
      take (logged_by (visit_under b f q s).0) (drop s (visit_under b f q s).1)
      ≡ take (logged_by (visit_under b f q s).0) (drop s (visit_under b f p s).1)
  same_bytes =
      (single b f q s).inside
      ∙ ap (log_by b f) same_answer
      ∙ sym (single b f p s).inside
      ∙ ap (λ (a : Answer). take (logged_by a) (drop s (visit_under b f p s).1)) (sym same_answer)

-- what a block leaves of the buffer
record Left (p : List ℕ) (s : ℕ) (r : Block) : Type 0 where
  place : r.place ≡ s + sum_of r.answers
  long : length r.buffer ≡ length p
  before : take s r.buffer ≡ take s p
  behind : drop r.place r.buffer ≡ drop r.place p

-- a refused 7 writes nothing
seven_none : (a : Answer) → is_seven a ≡ true → logged_by a ≡ 0
seven_none (Done n) e = absurd (let z : ◌≡◌ {A = ℕ} 0 1 = cc in omega arith)
seven_none (Refused k) e = refl
seven_none (Complex o) e = refl
seven_none (Short n) e = refl

left : (f : RegisterFile) (bs : List (List ℕ)) (p : List ℕ) (s : ℕ) → Left p s (block_from f bs p s)
unfolding block_from sum_of
left f [] p s = record { place = omega arith; long = refl; before = refl; behind = refl }
left f (b ∷ bs) p s =
    let a = (visit_under b f p s).0 in
    let q = (visit_under b f p s).1 in
    let o = single b f p s in
    let r = left f bs q (s + logged_by a) in
    cond_both (is_seven a) _ _ (Left p s)
    (λ t.
    let z : logged_by a ≡ 0 = seven_none a t in
    record { place = omega arith; long = o.long; before = o.before; behind = rw (z, add-zero s) at o.behind })
    (λ t. record {
      place = r.place ∙ add_assoc s (logged_by a) (sum_of (block_from f bs q (s + logged_by a)).answers);
      long = r.long ∙ o.long;
      before = same_front s (logged_by a) _ _ r.before ∙ o.before;
      behind = r.behind ∙ rw r.place (same_end (s + logged_by a) (sum_of (block_from f bs q (s + logged_by a)).answers) q p o.behind);
    })

-- each answer is a single call's
singly :
    (f : RegisterFile) (p : List ℕ) (bs : List (List ℕ)) (q : List ℕ) (s : ℕ) → length q ≡ length p
    → Singly f p (block_from f bs q s).buffer s bs (block_from f bs q s).answers
unfolding block_from Singly
singly f p [] q s e = tt
singly f p (b ∷ bs) q s e =
    let a = (visit_under b f q s).0 in
    let x = (visit_under b f q s).1 in
    let o = single b f q s in
    let l = left f bs x (s + logged_by a) in
    cond_both (is_seven a) _ _ (λ (r : Block). Singly f p r.buffer s (b ∷ bs) r.answers)
    (λ t. (same_answer b f p q s e, same_bytes b f p q s e, tt))
    (λ t. (
      same_answer b f p q s e,
      same_part s (logged_by a) (block_from f bs x (s + logged_by a)).buffer x l.before ∙ same_bytes b f p q s e,
      singly f p bs x (s + logged_by a) (o.long ∙ e),
    ))

counting : (f : RegisterFile) (bs : List (List ℕ)) (p : List ℕ) (s : ℕ) → Counting bs (block_from f bs p s).count (block_from f bs p s).answers
unfolding block_from
counting f [] p s = through
counting f (b ∷ bs) p s =
    let a = visit_under b f p s in
    cond_both (is_seven a.0) _ _ (λ (r : Block). Counting (b ∷ bs) r.count r.answers) (λ t. full t)
    (λ t. on t (counting f bs a.1 (s + logged_by a.0)))

pub blocks_are_single_calls : promised.BlocksAreSingleCalls
blocks_are_single_calls f bs p s =
    let l = left f bs p s in
    record { singly = singly f p bs p s refl; count = counting f bs p s; place = l.place; long = l.long; before = l.before; behind = l.behind }
