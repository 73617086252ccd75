-- Which privilege level an instruction needs.
use Rattle.std.specs.Prelude.{ℕ, [], ◌∷◌, get_or}
use Rattle.access.specs.declared.PrivilegeLevel.{PrivilegeLevel}
use Rattle.access.specs.declared.PrivilegeLevel.TheVariants.{Any, PL0, Special, Reserved}

-- 0 any, 1 CPL 0, 2 special, 3 reserved
abbrev pub level_number : PrivilegeLevel → ℕ
level_number Any = 0
level_number PL0 = 1
level_number Special = 2
level_number Reserved = 3

-- the level of two bits
abbrev pub level_of : ℕ → PrivilegeLevel
level_of n = get_or (Any ∷ PL0 ∷ Special ∷ Reserved ∷ []) n Any
