-- Every statement of specs/Promises.antt, proved.
use Prim.Native.Nat.{ℕ}
use native.Mathlib.Omega.{arith}
use borrow.Author.Tests.{lt-ltb, le-ltb}
use mathlib.Core.Path.{refl, sym, ap, ◌∙◌}
use mathlib.Core.Logic.{inl}
use mathlib.Core.Bool.{not}
use lib.ListN.{replicate, length-replicate}
use Rattle.registers.specs.Files.{file_of, is_file}
use Rattle.definition.specs.Limits.{most_bytes}
use Rattle.promises.proofs.Opened.{opened}
use Rattle.streams.specs.Cuts.{Told, move_by, fed_from, closing_of}
use Rattle.streams.specs.Streams.{length_of, of_file, Said, record_says, meaning, answers_of, ending_of, fresh, feed, close}
use Rattle.streams.specs.Rows.{rows, traps}
use Rattle.streams.specs.Promises as promised
use Rattle.streams.proofs.Driving.{whole_told, says_alike}
use Rattle.streams.proofs.Told as told

pub cuts_tell_the_whole : promised.CutsTellTheWhole
unfolding answers_of ending_of close
cuts_tell_the_whole room cs h =
    (ap (λ (t : Told Said). t.answers) (whole_told room h cs), ap (λ (t : Told Said). t.closing) (whole_told room h cs))

pub any_two_cuts_agree : promised.AnyTwoCutsAgree
unfolding close
any_two_cuts_agree room bigger cs ds h k e =
    let one = cuts_tell_the_whole room cs h in
    let two = cuts_tell_the_whole bigger ds k in
    (one.0 ∙ ap answers_of e ∙ sym two.0, ap (λ (n : ℕ). (n, fresh)) (one.1 ∙ ap ending_of e ∙ sym two.1))

pub stopped_stays : promised.StoppedStays
unfolding feed
stopped_stays r c room h = rw h

pub early_seven : promised.EarlySeven
unfolding feed
early_seven r c room h k = rw (h, lt-ltb room most_bytes k)

pub room_is_room : promised.RoomIsRoom
unfolding feed
room_is_room r c room bigger h k = rw (le-ltb room most_bytes h, le-ltb bigger most_bytes k)

pub records_are_visited : promised.RecordsAreVisited
unfolding record_says
records_are_visited f b p s h =
    says_alike (not (is_file f)) b (file_of f) (replicate most_bytes 0) p 0 s (omega (arith, length-replicate {A = ℕ} most_bytes 0)) h

pub calls_take : promised.CallsTake
calls_take = told.calls_take

pub bytes_stay : promised.BytesStay
bytes_stay = told.bytes_stay

pub fresh_is_sound : promised.FreshIsSound
fresh_is_sound = record { parted = inl refl; latest = inl refl }

pub wild_bytes : promised.WildBytes
unfolding opened feed record_says meaning length_of of_file move_by fed_from
wild_bytes = refl

pub streams_refine : promised.StreamsRefine
streams_refine = told.streams_refine

pub traps_hold : promised.TrapsHold
unfolding opened rows traps feed close record_says meaning length_of of_file move_by fed_from closing_of
traps_hold = refl
