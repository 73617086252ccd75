-- What the calls on a watch ask: the counts of a step and the length of a named event fit their bits; and words and watch are one
-- another's. Assumes nothing.
use Prim.Native.Nat.{ℕ, ◌-◌, ◌^◌, ◌≤◌, ◌<◌}
use native.Mathlib.Omega.{arith}
use mathlib.Core.Path.{◌≡◌, refl, sym, subst}
use mathlib.Core.List.{List, [], ◌∷◌}
use mathlib.Core.Bool.{Bool, true, false, cond}
use lib.Dec.{eqb}
use borrow.Author.Tests.{ne_eqb, eqb-true}
use Rattle.std.specs.Prelude.{Option, None, Some, Result, IfOk}
use Rattle.laws.specs.declared.refusals.Refusal.{Refusal}
use Rattle.std.proofs.lemmas.Bool.{cond_both}
use Rattle.definition.specs.Readings.{read_at}
use Rattle.definition.specs.declared.Reading.{Reading}
use Rattle.definition.specs.declared.Reading.TheVariants.{Found, Bad, Finished}
use Rattle.watching.specs.Verdicts.{is_length, named_by, name_at}
use Rattle.watching.specs.Tallies.{total}
use Rattle.watching.specs.Traces.{Pair, is_taking, taken, step_of}
use Rattle.watching.specs.declared.verdicts.Variable.{Variable}
use Rattle.watching.specs.declared.verdicts.Verdict.{Verdict}
use Rattle.watching.specs.declared.verdicts.Naming.{Naming}
use Rattle.watching.specs.declared.verdicts.Naming.TheVariants.{Named, Unnamed, Ended}
use Rattle.watching.specs.declared.watch.Watch.{Watch}
use Rattle.watching.specs.declared.watch.Stepped.{Stepped}
use Rattle.watching.proofs.Steps.{pair_few}
use Rattle.watch_words.specs.Words.{never, when_in, when_word, watch_in, words_of}
use Rattle.answers.proofs.Lengths.{leads_on}

-- a step's counts fit in bytes
abbrev pub Few : Result Stepped Refusal → Type 0
Few r = IfOk r (λ s. total s.tally < 2 ^ 8)

pub step_few : (w : Watch) (p : Pair) → Few (step_of w p)
unfolding step_of taken
step_few w p =
    cond_both (is_taking w) _ _ Few (λ t. omega (arith, pair_few w.variable p)) (λ t. tt)

-- a named event ends further on, and is not long
abbrev Leads : ℕ → Naming → Type 0
Leads at (Named x t next) = (at < next) × (next - at ≤ 10)
Leads at (Unnamed k) = Unit {0}
Leads at Ended = Unit {0}

named_leads : (v : Variable) (l : List ℕ) (at : ℕ) (r : Reading) → read_at l at ≡ r → Leads at (named_by v r)
named_leads v l at (Found e next) h = let a = leads_on l at h in (a.0, a.1.0)
named_leads v l at (Bad k) h = tt
named_leads v l at Finished h = tt

pub name_leads :
    (v : Variable) (l : List ℕ) (at : ℕ) {x : Verdict} {t next : ℕ} → name_at v l at ≡ Named x t next
    → (at < next) × (next - at ≤ 10)
unfolding name_at
name_leads v l at h =
    subst (Leads at) h (cond_both (is_length v.length) _ _ (Leads at) (λ t. named_leads v l at (read_at l at) refl) (λ t. tt))

-- THE WORDS ARE KEPT: whatever ten words a caller has, the watch that they are has these words; so a refused step leaves them
when_kept : (n : ℕ) (t : Bool) → eqb n never ≡ t → when_word (cond t None (Some n)) ≡ n
when_kept n true e = sym (eqb-true n never e)
when_kept n false e = refl

pub words_kept : (a b c d e f g h i j : ℕ) → words_of (watch_in (a ∷ b ∷ c ∷ d ∷ e ∷ f ∷ g ∷ h ∷ i ∷ j ∷ [])) ≡ a ∷ b ∷ c ∷ d ∷ e ∷ f ∷ g ∷ h ∷ i ∷ j ∷ []
unfolding words_of watch_in
words_kept a b c d e f g h i j = rw (when_kept i (eqb i never) refl, when_kept j (eqb j never) refl)

-- and a watch whose numbers are below all ones, so every watch that began new, is that of its words
abbrev Small : Option ℕ → Type 0
Small None = Unit {0}
Small (Some n) = n < never

when_round : (x : Option ℕ) → Small x → when_in (when_word x) ≡ x
when_round None s = refl
when_round (Some n) s = rw (ne_eqb n never (λ e. omega (arith, e)))

pub watch_kept : (w : Watch) → Small w.first → Small w.last → watch_in (words_of w) ≡ w
unfolding words_of watch_in
watch_kept w s t = rw (when_round w.first s, when_round w.last t)
