-- Which entries are memory forms, whether they read or write.
use Rattle.std.specs.Prelude.{Bool, true, false, Option, Some, None}
use Rattle.implicit.specs.declared.ImplicitOperand.{ImplicitOperand}
use Rattle.implicit.specs.declared.ImplicitOperand.TheVariants.{Register, MemDeref, Disp, MemBaseIndexScale}
use Rattle.implicit.specs.declared.Entry.{Entry}
use Rattle.implicit.specs.declared.Entry.TheVariants.{Operand, Slot}

abbrev pub memory_form : ImplicitOperand → Bool
memory_form (Register x) = false
memory_form (MemDeref x) = true
memory_form (Disp x d) = true
memory_form (MemBaseIndexScale x y s) = true

-- the slot of a string instruction is Deref_rdi
abbrev pub memory_entry : Entry → Bool
memory_entry (Operand o way) = memory_form o
memory_entry (Slot n way) = true

-- past a list's end there is none
abbrev pub memory_at : Option Entry → Bool
memory_at (Some e) = memory_entry e
memory_at None = false
