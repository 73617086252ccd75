-- With room for every log no record is refused 7, and demand 3 holds record by record. Assumes nothing.
use Prim.Native.Nat.{ℕ, suc, ◌+◌, ◌*◌, ◌≤◌, ◌<◌}
use native.Mathlib.Omega.{arith}
use mathlib.Core.Path.{◌≡◌, refl, sym, ap, ◌∙◌}
use mathlib.Core.List.{List, [], ◌∷◌}
use mathlib.Core.Bool.{false}
use lib.ListN.{length}
use lib.Dec.{eqb}
use borrow.Author.Tests.{ne_eqb}
use Rattle.std.proofs.lemmas.Bool.{cond_both}
use Rattle.registers.specs.declared.RegisterFile.{RegisterFile}
use Rattle.record.specs.Records.{record_of}
use Rattle.definition.specs.Limits.{most_bytes}
use Rattle.definition.specs.Logs.{bytes_of}
use Rattle.definition.specs.Visits.{fixed_record, log_of, refusal_of, outcome, visit_by, visit_under, number_of, count_of}
use Rattle.definition.specs.declared.Answer.{Answer}
use Rattle.definition.specs.declared.Answer.TheVariants.{Done, Refused, Complex, Short}
use Rattle.definition.proofs.Bounds.{log_bytes_lem}
use Rattle.promises.specs.Calls.{Alike}
use Rattle.promises.specs.Calls as calls
use Rattle.promises.proofs.Outcomes.{number_is}
use Rattle.promises.proofs.Proved.{more_known_refines_under}
use Rattle.promises.proofs.Rooms.{visit_has_room}
use Rattle.block.specs.Blocks.{is_seven, logged_by, block_from}
use Rattle.block.specs.Promises.{sum_of, Beside, none, refused, logged}
use Rattle.block.specs.Promises as promised
use Rattle.block.proofs.Singles.{single}

-- no answer tells of more bytes than the longest log has
abbrev Short_enough : Answer × List ℕ → Type 0
Short_enough o = count_of o.0 ≤ most_bytes

outcome_most : (k o : ℕ) (l p : List ℕ) (s : ℕ) → length l ≤ most_bytes → Short_enough (outcome k o l p s)
unfolding outcome
outcome_most k o l p s h =
    cond_both (eqb k 0) _ _ Short_enough (λ t. h)
    (λ t. cond_both (eqb k 4) _ _ Short_enough (λ u. omega arith) (λ u. cond_both (eqb k 7) _ _ Short_enough (λ v. h) (λ v. omega arith)))

module _ (b : List ℕ) (f : RegisterFile) (p : List ℕ) (s : ℕ) where
  pub count_most : count_of (visit_under b f p s).0 ≤ most_bytes
  unfolding visit_by log_of
  count_most = outcome_most (refusal_of false b f p s) (record_of b).opcode (bytes_of (log_of b f)) p s (log_bytes_lem f (fixed_record b))

  -- so it is a byte
  pub count_byte : {a : Answer} {new : List ℕ} → (a, new) ≡ visit_under b f p s → count_of a < 256
  count_byte e = rw (ap (λ (o : Answer × List ℕ). o.0) e) (omega (arith, count_most))

  -- what is written is counted
  logged_counted : (a : Answer) → logged_by a ≤ count_of a
  logged_counted (Done n) = omega arith
  logged_counted (Refused k) = omega arith
  logged_counted (Complex o) = omega arith
  logged_counted (Short n) = omega arith

  pub logged_most : logged_by (visit_under b f p s).0 ≤ most_bytes
  logged_most = omega (arith, count_most, logged_counted (visit_under b f p s).0)

  roomy : s + most_bytes ≤ length p → is_seven (visit_under b f p s).0 ≡ false
  unfolding visit_by
  roomy h =
      ne_eqb (number_of (visit_under b f p s).0) 7
      (λ e. visit_has_room false b f p s h (sym (number_is (refusal_of false b f p s) (record_of b).opcode (bytes_of (log_of b f)) p s) ∙ e))

  -- a record that is not refused 7
  past :
      (bs : List (List ℕ)) → is_seven (visit_under b f p s).0 ≡ false
      → ((block_from f (b ∷ bs) p s).count ≡ suc (block_from f bs (visit_under b f p s).1 (s + logged_by (visit_under b f p s).0)).count)
      × ((block_from f (b ∷ bs) p s).answers ≡ (visit_under b f p s).0 ∷ (block_from f bs (visit_under b f p s).1 (s + logged_by (visit_under b f p s).0)).answers)
  unfolding block_from
  past bs e = (rw e, rw e)

  -- leaves room for the others
  rest_room : (n : ℕ) → s + most_bytes * suc n ≤ length p → s + logged_by (visit_under b f p s).0 + most_bytes * n ≤ length (visit_under b f p s).1
  rest_room n h = omega (arith, logged_most, (single b f p s).long)

pub blocks_have_room : promised.BlocksHaveRoom
unfolding block_from
blocks_have_room f [] p s h = (refl, refl)
blocks_have_room f (b ∷ bs) p s h =
    let u = past b f p s bs (roomy b f p s (omega arith)) in
    let r = blocks_have_room f bs (visit_under b f p s).1 (s + logged_by (visit_under b f p s).0) (rest_room b f p s (length bs) h) in
    (u.0 ∙ ap suc r.0, ap length u.1 ∙ ap suc r.1)

beside_cons :
    {bs : List (List ℕ)} {xs ys : List Answer} (b : List ℕ) (f g : RegisterFile) (p q : List ℕ) (s t : ℕ) (o u : Answer × List ℕ)
    → Alike o u p q s t (log_of b f) (log_of b g) → Beside f g bs xs ys → Beside f g (b ∷ bs) (o.0 ∷ xs) (u.0 ∷ ys)
beside_cons b f g p q s t o u (calls.refused a r e h) k = rw (e, h) (refused r k)
beside_cons b f g p q s t o u (calls.logged e h r) k = rw (e, h) (logged r k)

pub blocks_refine : promised.BlocksRefine
unfolding block_from
blocks_refine f g [] p q s t m hp hq = none
blocks_refine f g (b ∷ bs) p q s t m hp hq =
    let u = past b f p s bs (roomy b f p s (omega arith)) in
    let v = past b g q t bs (roomy b g q t (omega arith)) in
    rw (u.1, v.1)
    (beside_cons b f g p q s t (visit_under b f p s) (visit_under b g q t) (more_known_refines_under b f g p q s t m (omega arith) (omega arith))
    (blocks_refine f g bs (visit_under b f p s).1 (visit_under b g q t).1 (s + logged_by (visit_under b f p s).0) (t + logged_by (visit_under b g q t).0) m
    (rest_room b f p s (length bs) hp) (rest_room b g q t (length bs) hq)))
