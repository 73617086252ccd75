-- What an append gives, by what visiting answered. Assumes nothing.
use Rattle.std.proofs.Common.{◌≡◌, ℕ, ◌+◌, ◌≤◌, not, List, length, take, drop, refl, sym, ap, ◌∙◌, arith}
use Rattle.registers.specs.Files.{file_of, is_file}
use Rattle.definition.specs.Visits.{log_of, visit_of}
use Rattle.definition.specs.declared.Answer.{Answer}
use Rattle.definition.specs.declared.Answer.TheVariants.{Done, Refused, Complex, Short}
use Rattle.event.specs.Wholes.{events_in, whole_of}
use Rattle.event.proofs.Wholes.{reads_whole}
use Rattle.promises.proofs.Whole.{visit_written, visit_inside, visit_reads}
use Rattle.session.specs.declared.appends.Session.{Session}
use Rattle.session.specs.Sessions.{further, appended}

module _ (b f p : List ℕ) (s : Session) (new : List ℕ) where
  pub append_refused : (a : Answer) → (a, new) ≡ visit_of b f p s.used → ((n : ℕ) → a ≡ Done n → ⊥) → (a, (s, new)) ≡ appended b f (s, p)
  unfolding appended
  append_refused (Done n) visited t = absurd (t n refl)
  append_refused (Refused k) visited t = rw (← visited)
  append_refused (Complex o) visited t = rw (← visited)
  append_refused (Short n) visited t = rw (← visited)

  module _ (a : Answer) (visited : (a, new) ≡ visit_of b f p s.used) (n : ℕ) (done : a ≡ Done n) where
    wrote : visit_of b f p s.used ≡ (Done n, new)
    wrote = sym visited ∙ ap (λ (x : Answer). (x, new)) done

    -- what was written lies within the buffer
    pub fits : s.used + n ≤ length new
    fits =
        omega (arith, visit_inside (not (is_file f)) b (file_of f) p s.used n new wrote, (visit_written (not (is_file f)) b (file_of f) p s.used n new wrote).long)

    -- and its events are those that reading it finds
    pub append_done : (t : Session) → t ≡ further s n (events_in (whole_of (take n (drop s.used new)))) → (Done n, (t, new)) ≡ appended b f (s, p)
    unfolding appended
    append_done t e =
        let r = reads_whole (take n (drop s.used new)) (log_of b (file_of f)) (visit_reads (not (is_file f)) b (file_of f) p s.used n new wrote) in
        rw (wrote, e, r)
