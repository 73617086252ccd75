-- A list of records as bytes: one record after the other, `each` bytes long.
use Rattle.std.specs.Prelude.{ℕ, zero, suc, ◌/◌, ◌%◌, List, [], ◌∷◌, not, length, take, drop, ltb, eqb}
use Rattle.laws.specs.Tests.{is_in, first_of}
use Rattle.record.specs.Records.{everyday_bytes, record_bytes, segment_bytes}

-- how long a record can be
abbrev pub record_lengths : List ℕ
record_lengths = everyday_bytes ∷ record_bytes ∷ segment_bytes ∷ []

-- no list has more records
abbrev pub most_records : ℕ
most_records = 1000

-- how a list of n bytes is refused: 1 where `each` is no record's length or n is no multiple of it, 2 for too many records
unfoldable pub list_refusal : ℕ → ℕ → ℕ
list_refusal n each =
    first_of
    ((not (is_in each record_lengths), 1)
    ∷ (not (eqb (n % each) 0), 1)
    ∷ (ltb most_records (n / each), 2)
    ∷ [])

-- the first n records
unfoldable pub cut : ℕ → ℕ → List ℕ → List (List ℕ)
cut zero each b = []
cut (suc n) each b = take each b ∷ cut n each (drop each b)

-- all of them
unfoldable pub records_in : ℕ → List ℕ → List (List ℕ)
records_in each b = cut (length b / each) each b
