-- How far a chunk is taken, and what that means: what the definition gives of the bytes that are left.
use Rattle.std.specs.Prelude.{ℕ, ◌+◌, ◌≤◌, ◌<◌, ◌≡◌, ◌⊎◌, List, [], Bool, true, false, cond, length, get_or, drop, ltb}
use Rattle.streams.specs.Cuts.{Saying, quiet, told, Fed, waits, says, stops, fed_from}
use Rattle.streams.specs.Streams.{length_of, Said, bad_file, record_says, meaning}
use Rattle.reader.specs.declared.held.Reader.{Reader}
use Rattle.reader.specs.declared.items.Brought.{Brought}
use Rattle.reader.specs.declared.items.Brought.TheVariants.{Nothing, Unknown, BadFile, Record}
use Rattle.reader.specs.declared.items.Taking.{Taking}

abbrev pub taking : Brought → ℕ → Taking
taking b n = record { brought = b; taken = n }

-- so many bytes were taken before
abbrev pub ahead : {F A : Type 0} → ℕ → Fed F A → Fed F A
ahead n (waits f l) = waits f l
ahead n (says a f m) = says a f (n + m)
ahead n (stops f m) = stops f (n + m)

-- what a chunk c does, of which t.taken bytes are taken, by the bytes of the latest file and of the item
abbrev pub doing : Brought → ℕ → List ℕ → List ℕ → Fed (List ℕ) Said → Fed (List ℕ) Said
doing Nothing n f l rest = rest
doing Unknown n f l rest = stops f n
doing BadFile n f l rest = says bad_file f n
doing Record n f l rest = says (record_says f l) f n

unfoldable pub onward : Taking → Reader → List ℕ → Fed (List ℕ) Said
onward t r c = doing t.brought t.taken r.file r.kept (ahead t.taken (fed_from length_of meaning r.file r.kept (drop t.taken c)))

-- the same where nothing is left of the chunk
unfoldable pub closed : Taking → Reader → Fed (List ℕ) Said
closed t r = doing t.brought t.taken r.file r.kept (waits r.file r.kept)

-- what a whole item did, whose last byte was the n-th of the chunk
abbrev pub after_item : List ℕ × Saying Said → ℕ → List ℕ → Fed (List ℕ) Said
after_item (g, quiet) n c = ahead n (fed_from length_of meaning g [] (drop n c))
after_item (g, told a) n c = says a g n

abbrev pub only_open : Brought → Bool
only_open Nothing = true
only_open Unknown = false
only_open BadFile = false
only_open Record = false

unfoldable pub goes_on : Taking → ℕ → Bool
goes_on t end = cond (only_open t.brought) (ltb t.taken end) false

-- while nothing is answered, what is kept is none or a part of an item
abbrev pub PartIn : Brought → List ℕ → Type 0
PartIn Nothing l = (length l ≡ 0) ⊎ (length l < length_of (get_or l 0 0))
PartIn Unknown l = Unit {0}
PartIn BadFile l = Unit {0}
PartIn Record l = Unit {0}

-- more is taken, or something was brought
pub record Less (r t : Taking) (end : ℕ) : Type 0 where
  pub within : r.taken ≤ end
  pub more : (goes_on r end ≡ true) → t.taken < r.taken

-- the chunk is taken, or something was brought
pub record Through (t : Taking) (end : ℕ) : Type 0 where
  pub within : t.taken ≤ end
  pub over : goes_on t end ≡ false
