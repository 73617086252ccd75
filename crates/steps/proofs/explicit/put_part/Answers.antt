use Rattle.std.proofs.Common.{◌≡◌, ℕ, zero, suc, ◌<◌, ◌≤◌, Bool, true, false, ltb, [], refl, arith}
use Rattle.std.proofs.Math.ListN.{get_or-eq_default}
use borrow.Author.Tests.{ltb-true, ltb-false}
use Rattle.laws.proofs.Keys.{Ruled, past_keys}
use Rattle.laws.proofs.Lending.{silent}
use Rattle.laws.proofs.Span.{span}
use Rattle.registers.specs.Values.{Value}
use Rattle.implicit.specs.declared.Way.{Way}
use Rattle.record.specs.Records.{record_of}
use Rattle.record.specs.declared.Record.{Record}
use Rattle.definition.specs.Logs.{event_bytes}
use Rattle.address.specs.declared.places.Sources.{Sources}
use Rattle.steps.specs.Parts.{parts, part_events}
use Rattle.steps.proofs.explicit.put_part.Goals as goal

-- what was ruled out before a range of keys
earlier : (X : Type 0) (o lo n : ℕ) → Ruled X o lo n → X
earlier X o lo zero r = r
earlier X o lo (suc n) r = earlier X o lo n r.0

-- Nothing, immediates and what is no spec log nothing
module _ (x : Record) (w : Way) (at : Sources) (g : Value) (s : ℕ) where
  abbrev Silent : ℕ → Type 0
  Silent k = part_events x w at g k ≡ []

  nothing : s < 1 → Silent s
  unfolding part_events
  nothing h = span Silent 0 1 (refl, tt) s (omega arith) h

  immediate : 11 ≤ s → s < 18 → Silent s
  unfolding part_events
  immediate l h = span Silent 11 7 (refl, (refl, (refl, (refl, (refl, (refl, (refl, tt))))))) s l h

  no_spec : 36 ≤ s → Silent s
  unfolding part_events
  no_spec h = get_or-eq_default (parts x w at g) [] {n = s} h

  unwritten : Ruled (Ruled (Unit {0}) s 1 10) s 18 18 → Silent s
  unwritten r = by (ltb s 1) (ltb s 18) refl refl
    where
      by : (b c : Bool) → ltb s 1 ≡ b → ltb s 18 ≡ c → Silent s
      by true c e f = nothing (ltb-true s 1 e)
      by false true e f =
          immediate (past_keys (Unit {0}) 1 10 (earlier (Ruled (Unit {0}) s 1 10) s 18 18 r) (ltb-false s 1 e)) (ltb-true s 18 f)
      by false false e f = no_spec (past_keys (Ruled (Unit {0}) s 1 10) 18 18 r (ltb-false s 18 f))

pub returns-in_default : goal.returns-in_default
returns-in_default c =
    let a = c.args in
    rw (unwritten (record_of a.b.now) a.way a.at a.added a.spec c.in_default.in_default-own.rest) (silent event_bytes a.log.now)
