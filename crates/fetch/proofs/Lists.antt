-- Which implicit lists touch memory, and by which registers. Assumes nothing.
use Prim.Native.Nat.{ℕ, ◌≤◌, ◌<◌, zero-le}
use mathlib.Core.Path.{◌≡◌, refl, ap}
use mathlib.Core.List.{List, [], ◌∷◌}
use lib.ListN.{get_or-eq_default}
use Rattle.laws.specs.Lists.{each}
use Rattle.laws.proofs.Span.{span}
use Rattle.registers.specs.Banks.{is_logged}
use Rattle.registers.specs.Files.{part_of}
use Rattle.implicit.specs.Lists.{implicits, implicit_of}
use Rattle.fetching.specs.Needs.{slots_of}
use Rattle.fetch.specs.Parts.{form_needs, entry_needs, list_needs}

module _ (l : ℕ) where
  abbrev Lists : List ℕ → ℕ → Type 0
  Lists ks k = list_needs k ≡ ks

  pub register_lists : l < 15 → Lists [] l
  unfolding list_needs implicit_of entry_needs form_needs each
  register_lists h = span (Lists []) 0 15 (refl, (refl, (refl, (refl, (refl, (refl, (refl, (refl, (refl, (refl, (refl, (refl, (refl, (refl, (refl, tt))))))))))))))) l zero-le h

  pub mask_lists : 15 ≤ l → l < 17 → Lists (7 ∷ []) l
  unfolding list_needs implicit_of entry_needs form_needs slots_of part_of is_logged each
  mask_lists h k = span (Lists (7 ∷ [])) 15 2 (refl, (refl, tt)) l h k

  pub string_lists : 17 ≤ l → l < 26 → Lists [] l
  unfolding list_needs implicit_of entry_needs form_needs each
  string_lists h k = span (Lists []) 17 9 (refl, (refl, (refl, (refl, (refl, (refl, (refl, (refl, (refl, tt))))))))) l h k

  pub stack_lists : 26 ≤ l → l < 28 → Lists (4 ∷ []) l
  unfolding list_needs implicit_of entry_needs form_needs slots_of part_of is_logged each
  stack_lists h k = span (Lists (4 ∷ [])) 26 2 (refl, (refl, tt)) l h k

  pub past_lists : 29 ≤ l → Lists [] l
  unfolding list_needs implicit_of each
  past_lists h = ap (each entry_needs) (get_or-eq_default implicits [] {n = l} h)
