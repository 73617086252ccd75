-- The number of the record that the judge names has room in an answer. Assumes nothing.
use Prim.Native.Nat.{ℕ, ◌/◌, ◌<◌}
use native.Mathlib.Omega.{arith}
use mathlib.Core.Path.{◌≡◌, refl}
use mathlib.Core.List.{List}
use mathlib.Core.Bool.{Bool, true, false, cond}
use lib.ListN.{length}
use lib.Dec.{eqb}
use borrow.Author.Tests.{eqb-true}
use Rattle.std.proofs.Common.{Ok, Err}
use Rattle.laws.specs.Refusals.{refusal_named}
use Rattle.records.specs.Lists.{most_records, list_refusal, records_in}
use Rattle.records.proofs.Cuts.{cut_length, listed}
use Rattle.fetching.specs.Judging.{judge, judge_call}
use Rattle.fetching.specs.declared.Judgement.TheVariants.{Lacking}
use Rattle.fetching.proofs.Named.{judge_names}

module _ (b : List ℕ) (n v i k : ℕ) where
  in_list : judge v (records_in n b) ≡ Lacking i k → i < length b / n
  unfolding records_in
  in_list e = let h = (judge_names v (records_in n b) i k e).0 in rw (cut_length (length b / n) n b) at h

  pub named_few : judge_call b n v ≡ Ok (Lacking i k) → i < most_records
  unfolding judge_call
  named_few e = by (eqb (list_refusal (length b) n) 0) refl e
    where
      by :
          (t : Bool) → eqb (list_refusal (length b) n) 0 ≡ t → cond t (Ok (judge v (records_in n b))) (Err (refusal_named (list_refusal (length b) n))) ≡ Ok (Lacking i k)
          → i < most_records
      by true h e =
          let same : judge v (records_in n b) ≡ Lacking i k = cc in
          omega (arith, in_list same, (listed (length b) n (eqb-true (list_refusal (length b) n) 0 h)).few)
      by false h e = absurd (cc)
