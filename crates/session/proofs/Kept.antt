-- What an append in words asks: its answer fits its bits; and a session is read back from its words. Assumes nothing.
use Rattle.std.proofs.Common.{◌≡◌, ℕ, ◌^◌, ◌<◌, not, List, refl, ap}
use Rattle.registers.specs.Files.{file_of, is_file}
use Rattle.definition.specs.Visits.{count_of}
use Rattle.definition.specs.declared.Answer.{Answer}
use Rattle.answers.proofs.Counts.{visit_fits}
use Rattle.session.specs.declared.appends.Session.{Session}
use Rattle.session.specs.Sessions.{Held, appended}
use Rattle.session.specs.Words.{session_in, words_of}

pub append_fits : (b f : List ℕ) (h : Held) {a : Answer} {after : Held} → (a, after) ≡ appended b f h → count_of a < 2 ^ 32
unfolding appended
append_fits b f h e =
    rw (ap (λ (o : Answer × Held). o.0) e) (visit_fits (not (is_file f)) b (file_of f) h.1 h.0.used refl)

-- the words of a session are those that it came from
pub session_kept : (s : Session) → session_in (words_of s) ≡ s
session_kept s = refl
