-- The judge of a set of registers for a list of records, and the proposer of one.
use Rattle.std.specs.Prelude.{ℕ, zero, suc, ◌+◌, ◌^◌, List, [], ◌∷◌, Bool, true, not, cond, ◌&&◌, length, replicate, ltb, Result}
use Rattle.laws.specs.Words.{bit}
use Rattle.laws.specs.Lists.{each}
use Rattle.laws.specs.Refusals.{answered_by}
use Rattle.laws.specs.declared.refusals.Refusal.{Refusal}
use Rattle.laws.specs.Tests.{is_in}
use Rattle.sets.specs.Sets.{bits_from}
use Rattle.registers.specs.Files.{file_with}
use Rattle.registers.specs.declared.RegisterFile.{RegisterFile}
use Rattle.records.specs.Lists.{list_refusal, records_in}
use Rattle.fetching.specs.Needs.{held_registers, needs_of}
use Rattle.fetching.specs.declared.Judgement.{Judgement}
use Rattle.fetching.specs.declared.Judgement.TheVariants as judged

-- a set has a bit for each of the sixteen general registers, rip, and the bases of fs and gs
abbrev pub set_bits : ℕ
set_bits = 19

-- all of these numbers are in a set
unfoldable pub all_in : ℕ → List ℕ → Bool
all_in v [] = true
all_in v (k ∷ ks) = bit v k && all_in v ks

-- THE JUDGE: no bit above the last, and every need of every record
unfoldable pub accepts : ℕ → List (List ℕ) → Bool
accepts v bs = ltb v (2 ^ set_bits) && all_in v (each needs_of bs)

-- the least of the n numbers from k on that passes a test; where none does, the number behind them
unfoldable pub first_from : (ℕ → Bool) → ℕ → ℕ → ℕ
first_from p k zero = k
first_from p k (suc n) = cond (p k) k (first_from p (k + 1) n)

-- the lowest bit that a record lacks
unfoldable pub lacked_by : ℕ → List ℕ → ℕ
lacked_by v b = first_from (λ (k : ℕ). is_in k (needs_of b) && not (bit v k)) 0 set_bits

-- what the judge says from record i on: the first record that lacks a register
unfoldable pub judge_from : ℕ → ℕ → List (List ℕ) → Judgement
judge_from v i [] = judged.Accepted
judge_from v i (b ∷ bs) = cond (all_in v (needs_of b)) (judge_from v (i + 1) bs) (judged.Lacking i (lacked_by v b))

unfoldable pub judge : ℕ → List (List ℕ) → Judgement
judge v bs = cond (ltb v (2 ^ set_bits)) (judge_from v 0 bs) judged.NoSuchBit

-- THE PROPOSER: the needs of all records
unfoldable pub proposed : List (List ℕ) → ℕ
proposed bs = bits_from (λ (k : ℕ). is_in k (each needs_of bs)) 0 set_bits

-- Both over the bytes of a list of records, n bytes each
unfoldable pub judge_call : List ℕ → ℕ → ℕ → Result Judgement Refusal
judge_call b n v = answered_by (list_refusal (length b) n) (judge v (records_in n b))

unfoldable pub propose_call : List ℕ → ℕ → Result ℕ Refusal
propose_call b n = answered_by (list_refusal (length b) n) (proposed (records_in n b))

-- a file that knows only the registers of a set, of those that it knew
unfoldable pub restricted : ℕ → RegisterFile → RegisterFile
restricted v f = file_with f.values (bits_from (λ (k : ℕ). bit v k && bit f.known k) 0 held_registers)

-- a file that knows every register, to be 0
unfoldable pub all_known : RegisterFile
all_known = file_with (replicate held_registers 0) (bits_from (λ (k : ℕ). true) 0 held_registers)
