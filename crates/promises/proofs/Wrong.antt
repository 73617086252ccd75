-- Wrong answers tried against the contract of the public visit: each fails at P1 or P2. Assumes nothing.
use Prim.Native.Nat.{ℕ}
use native.Mathlib.Omega.{arith}
use mathlib.Core.Path.{◌≡◌, refl, sym, ap, ◌∙◌}
use mathlib.Core.List.{List, [], ◌++◌}
use lib.ListN.{get_or, set}
use Rattle.definition.specs.Visits.{visit_of, count_of}
use Rattle.definition.specs.declared.Answer.{Answer}
use Rattle.definition.specs.declared.Answer.TheVariants.{Done}
use Rattle.promises.specs.Calls.{Refusal, by_number, by_opcode, by_room_lem, Program}
use Rattle.promises.specs.Rows.{record_with, file_knowing, buffer}
use Rattle.promises.specs.Bench.{P1, P1_log, P2, P2_file, P2_log}
use Rattle.promises.specs.Promises.{Meets, at_p1, at_p2, NotRefusingAll, NotOneLog, NotUntouched, NotOperand0Alone, CountIsTheLength, NotOneCount, NotAllUnknown}
use Rattle.promises.proofs.Opened.{opened}
use Rattle.promises.proofs.Outcomes.{not_refused, not_complex, not_short}
use Rattle.promises.proofs.Whole.{visit_count}

-- what the definition gives at P1 and P2, at P2 under a file that knows nothing, and at P2 with its first operand alone
P1_left : List ℕ
P1_left = P1_log ++ buffer 34

P2_left : List ℕ
P2_left = P2_log ++ buffer 8

defined_1 : at_p1 visit_of ≡ (Done 6, P1_left)
unfolding opened P1_left
defined_1 = refl

defined_2 : at_p2 visit_of ≡ (Done 32, P2_left)
unfolding opened P2_left
defined_2 = refl

-- place 6 has the kind of the first memory event
defined_blind : get_or (visit_of (record_with P2) (file_knowing []) (buffer 40) 0).1 6 0 ≡ 0x05
unfolding opened
defined_blind = refl

-- place 29 has the kind of operand 1's event, and the buffer's own byte where operand 1 is left out
defined_first : get_or (visit_of (set (record_with P2) 3 1) (file_knowing P2_file) (buffer 40) 0).1 29 0 ≡ 0xEE
unfolding opened
defined_first = refl

no_refusal : (a : Answer) (n : ℕ) → Refusal a → a ≡ Done n → ⊥
no_refusal a n (by_number {k = k}) e = not_refused n k (sym e)
no_refusal a n (by_opcode {o = o}) e = not_complex n o (sym e)
no_refusal a n (by_room_lem {n = m}) e = not_short n m (sym e)

-- equal buffers have equal bytes
byte_at : (k : ℕ) (p q : List ℕ) → p ≡ q → get_or p k 0 ≡ get_or q k 0
byte_at k p q e = ap (λ (l : List ℕ). get_or l k 0) e

answer_of : Answer × List ℕ → Answer
answer_of r = r.0

left_by_lem : Answer × List ℕ → List ℕ
left_by_lem r = r.1

module _ (v : Program) (m : Meets v) where
  done_1 : (at_p1 v).0 ≡ Done 6
  unfolding answer_of
  done_1 = ap answer_of (m (record_with P1) (file_knowing []) (buffer 40) 0 ∙ defined_1)

  done_2 : (at_p2 v).0 ≡ Done 32
  unfolding answer_of
  done_2 = ap answer_of (m (record_with P2) (file_knowing P2_file) (buffer 40) 0 ∙ defined_2)

  left_1 : (at_p1 v).1 ≡ P1_left
  unfolding left_by_lem
  left_1 = ap left_by_lem (m (record_with P1) (file_knowing []) (buffer 40) 0 ∙ defined_1)

  left_2 : (at_p2 v).1 ≡ P2_left
  unfolding left_by_lem
  left_2 = ap left_by_lem (m (record_with P2) (file_knowing P2_file) (buffer 40) 0 ∙ defined_2)

pub not_refusing_all : NotRefusingAll
not_refusing_all v m r = no_refusal (at_p1 v).0 6 r (done_1 v m)

pub not_one_log : NotOneLog
unfolding P1_left P2_left
not_one_log v m l e g =
    let z : ◌≡◌ {A = ℕ} 0x00 0x0B = byte_at 1 P1_left P2_left (sym (left_1 v m) ∙ e ∙ sym g ∙ left_2 v m) in
    omega arith

pub not_untouched : NotUntouched
unfolding P1_left
not_untouched v m e =
    let z : ◌≡◌ {A = ℕ} 0x02 0xEE = byte_at 0 P1_left (buffer 40) (sym (left_1 v m) ∙ e) in
    omega arith

pub not_operand_0_alone : NotOperand0Alone
unfolding P2_left
not_operand_0_alone v m e =
    let z : ◌≡◌ {A = ℕ} 0x01 0xEE = byte_at 29 P2_left _ (sym (left_2 v m) ∙ e) ∙ defined_first in
    omega arith

pub count_is_the_length : CountIsTheLength
unfolding answer_of
count_is_the_length v m b f p s n e = visit_count b f p s n (sym (ap answer_of (m b f p s)) ∙ e)

pub not_one_count : NotOneCount
not_one_count v m n e g =
    let z : ◌≡◌ {A = ℕ} 6 32 = ap count_of (sym (done_1 v m) ∙ e ∙ sym g ∙ done_2 v m) in
    omega arith

pub not_all_unknown : NotAllUnknown
unfolding P2_left
not_all_unknown v m e =
    let z : ◌≡◌ {A = ℕ} 0x03 0x05 = byte_at 6 P2_left _ (sym (left_2 v m) ∙ e) ∙ defined_blind in
    omega arith
