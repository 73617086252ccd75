-- Tallies: one verdict more, two together, and the tally of a log. Assumes nothing.
use Rattle.std.proofs.Common.{◌≡◌, ◌+◌, ◌^◌, ◌<◌, ◌≤◌, List, [], ◌∷◌, ◌++◌, length, sym, refl, ap, ◌∙◌, arith}
use Rattle.watching.specs.Tallies.{no_tally, counting, tally_of, total, summed, added}
use Rattle.watching.specs.declared.verdicts.Verdict.{Verdict}
use Rattle.watching.specs.declared.verdicts.Verdict.TheVariants.{NoWrite, AddressUnknown, NoneTouched, PartTouched, WholeTouched}
use Rattle.watching.specs.declared.tallies.Tally.{Tally}

-- two tallies are equal where their counts are
pub tally_is : {s t : Tally} → s.unknown ≡ t.unknown → s.none ≡ t.none → s.part ≡ t.part → s.whole ≡ t.whole → s ≡ t
tally_is a b c d = λ i. record { unknown = a i; none = b i; part = c i; whole = d i }

pub summed_none : (t : Tally) → summed t no_tally ≡ t
summed_none t = tally_is (omega arith) (omega arith) (omega arith) (omega arith)

pub none_summed : (t : Tally) → summed no_tally t ≡ t
none_summed t = tally_is (omega arith) (omega arith) (omega arith) (omega arith)

-- a verdict may be counted in either of two
pub counting_over : (v : Verdict) (s t : Tally) → summed s (counting v t) ≡ summed (counting v s) t
unfolding counting
counting_over NoWrite s t = refl
counting_over AddressUnknown s t = tally_is (omega arith) refl refl refl
counting_over NoneTouched s t = tally_is refl (omega arith) refl refl
counting_over PartTouched s t = tally_is refl refl (omega arith) refl
counting_over WholeTouched s t = tally_is refl refl refl (omega arith)

pub counting_first : (v : Verdict) (s t : Tally) → counting v (summed s t) ≡ summed (counting v s) t
unfolding counting
counting_first NoWrite s t = refl
counting_first AddressUnknown s t = tally_is (omega arith) refl refl refl
counting_first NoneTouched s t = tally_is refl (omega arith) refl refl
counting_first PartTouched s t = tally_is refl refl (omega arith) refl
counting_first WholeTouched s t = tally_is refl refl refl (omega arith)

pub tally_append : (vs us : List Verdict) → tally_of (vs ++ us) ≡ summed (tally_of vs) (tally_of us)
unfolding tally_of
tally_append [] us = sym (none_summed (tally_of us))
tally_append (v ∷ vs) us = ap (counting v) (tally_append vs us) ∙ counting_first v (tally_of vs) (tally_of us)

-- nothing wraps where the counts are small
pub added_small : (s t : Tally) → total s + total t < 2 ^ 64 → added s t ≡ summed s t
unfolding added
added_small s t h = tally_is (omega arith) (omega arith) (omega arith) (omega arith)

pub counting_most : (v : Verdict) (t : Tally) → total (counting v t) ≤ total t + 1
unfolding counting
counting_most NoWrite t = omega arith
counting_most AddressUnknown t = omega arith
counting_most NoneTouched t = omega arith
counting_most PartTouched t = omega arith
counting_most WholeTouched t = omega arith

-- a tally counts no more than there are verdicts
pub tally_most : (vs : List Verdict) → total (tally_of vs) ≤ length vs
unfolding tally_of
tally_most [] = omega arith
tally_most (v ∷ vs) = omega (arith, counting_most v (tally_of vs), tally_most vs)
