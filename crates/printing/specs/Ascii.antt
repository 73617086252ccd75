-- A text as the bytes that are printed.
use Rattle.std.specs.Prelude.{ℕ, List, [] as nothing, ◌∷◌ as ◌then◌}
use Prim.Native.Char.{code}
use Prim.Native.String.{String, [], ◌∷◌}

unfoldable pub ascii : String → List ℕ
ascii [] = nothing
ascii (c ∷ s) = code c then ascii s
