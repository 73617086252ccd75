-- A sheet's file as a whole: what it comes to. A number that is not 0 is printed as refused; otherwise the words are printed.
use Rattle.std.specs.Prelude.{ℕ, zero, suc, ◌+◌, ◌-◌, ◌≡◌, List, [], ◌∷◌, cond, length, get_or, take, drop, eqb, leb, ltb}
use Rattle.laws.specs.Words.{number_at}
use Rattle.totals.specs.Sheets.{logs_word, most_logs, most_log_bytes, add_of, new_of}
use Rattle.filing.specs.Feeds.{header_bytes, length_bytes, State, fed, start_feed, end_number}

-- where a step was not refused, the rest of the file decides
abbrev pub onward : ℕ × List ℕ → (List ℕ → ℕ × List ℕ) → ℕ × List ℕ
onward r rest = cond (eqb r.0 0) (rest r.1) r

-- the logs, each after its length: 10 at the limit; 1 for a length that is cut; 2 for one over the most; 1 for a log that is cut; then
-- the log's own number. No file has more logs than bytes, so its length is fuel enough
unfoldable pub logs_in : ℕ → List ℕ → List ℕ → ℕ × List ℕ
logs_in zero w l = (0, w)
logs_in (suc fuel) w [] = (0, w)
logs_in (suc fuel) w (b ∷ l) =
    let file = b ∷ l in
    let n = number_at file 0 4 in
    cond (leb most_logs (get_or w logs_word 0)) (10, w)
    (cond (ltb (length file) length_bytes) (1, w)
    (cond (ltb most_log_bytes n) (2, w)
    (cond (ltb (length file - length_bytes) n) (1, w)
    (onward (add_of w (take n (drop length_bytes file))) (λ u. logs_in fuel u (drop (length_bytes + n) file))))))

-- under 9 bytes 1; then the watched length; then the logs
unfoldable pub file_from : List ℕ → List ℕ → ℕ × List ℕ
file_from w l =
    cond (ltb (length l) header_bytes) (1, w)
    (onward (new_of w (number_at l 0 8) (get_or l 8 0)) (λ u. logs_in (length l) u (drop header_bytes l)))

-- THE FILE IS READ. Whatever words there were, and in whatever blocks the file is read, feeding it comes to what the file comes to as a
-- whole.
abbrev pub start : List ℕ → State
start w = record { feed = start_feed; words = w; pending = [] }

abbrev pub FileIsRead : Type 0
FileIsRead = (w l : List ℕ) → (end_number (fed (start w) l).feed, (fed (start w) l).words) ≡ file_from w l
