-- Which registers of a register file enter the addresses of a record's logged memory accesses.
use Rattle.std.specs.Prelude.{ℕ, List, [], ◌∷◌, ◌++◌, cond, replicate, ltb, eqb}
use Rattle.laws.specs.Lists.{each}
use Rattle.registers.specs.Files.{nowhere, part_of, no_file}
use Rattle.registers.specs.declared.RegSpec.{RegSpec}
use Rattle.definition.specs.Addresses.{registers_of, segment_registers}
use Rattle.definition.specs.Limits.{most_bytes}
use Rattle.definition.specs.Steps.{Step, reads, writes, touches, steps_of}
use Rattle.definition.specs.Visits.{fixed_record, visit_under, number_of}
use Rattle.definition.specs.declared.Address.{Address}

-- how many registers a file holds: the slot that is nowhere lies behind them
abbrev pub held_registers : ℕ
held_registers = nowhere.slot

-- the full register that a register is part of, by its known bit; none for a register that no file holds
unfoldable pub slots_of : RegSpec → List ℕ
slots_of y = cond (ltb (part_of y).slot held_registers) ((part_of y).slot ∷ []) []

-- the base of a segment by its number, and the address's registers
unfoldable pub access_needs : ℕ → Address → List ℕ
access_needs s a = each slots_of (segment_registers s ++ registers_of a)

-- a register that is only read enters no address, as under LEA
unfoldable pub step_needs : Step → List ℕ
step_needs (reads y) = []
step_needs (writes y) = []
step_needs (touches w s a m n) = access_needs s a

-- how visiting refuses a record, given a good file and room; 0 where it does not
unfoldable pub refusal_alone : List ℕ → ℕ
refusal_alone b = number_of (visit_under b no_file (replicate most_bytes 0) 0).0

-- a refused record needs nothing
unfoldable pub needs_of : List ℕ → List ℕ
needs_of b = cond (eqb (refusal_alone b) 0) (each step_needs (steps_of (fixed_record b))) []
