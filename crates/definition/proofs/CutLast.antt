-- Where an address lies that is cut: where it lies uncut, cut. Assumes nothing.
use Rattle.std.specs.Prelude.{Some, None}
use mathlib.Core.Path.{◌≡◌, refl}
use mathlib.Core.Bool.{Bool}
use Rattle.registers.specs.Files.{after}
use Rattle.registers.specs.declared.RegisterFile.{RegisterFile}
use Rattle.registers.specs.Values.{Value}
use Rattle.record.specs.Records.{address_size}
use Rattle.record.specs.declared.Record.{Record}
use Rattle.definition.specs.Addresses.{term_of, low_if, place_of, uncut, address_of, operand_address}
use Rattle.definition.specs.declared.Address.{Address}
use Rattle.definition.specs.declared.Base.{Base}
use Rattle.definition.specs.declared.Displacement.{Displacement}

address_cut_last : (f : RegisterFile) (a : Address) → address_of f a ≡ after (address_of f (uncut a)) (λ v. Some (low_if a.cut v))
unfolding address_of place_of
address_cut_last f a = by (term_of f a.base) (term_of f a.index)
  where
    by : (u v : Value)
        → after u (λ m. after v (λ n. Some (place_of a m n)))
        ≡ after (after u (λ m. after v (λ n. Some (place_of (uncut a) m n)))) (λ k. Some (low_if a.cut k))
    by (Some m) (Some n) = refl
    by (Some m) None = refl
    by None v = refl

pub cut_last :
    (f : RegisterFile) (x : Record) (b : Base) (i : Bool) (d : Displacement)
    → address_of f (operand_address x b i d) ≡ after (address_of f (uncut (operand_address x b i d))) (λ v. Some (low_if (address_size x) v))
unfolding operand_address
cut_last f x b i d = address_cut_last f (operand_address x b i d)
