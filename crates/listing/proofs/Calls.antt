-- The outcomes of a listing, return by return. Assumes nothing.
use Prim.Native.Nat.{ℕ, ◌≤◌}
use mathlib.Core.Path.{◌≡◌, sym, ap, ◌∙◌}
use mathlib.Core.Bool.{Bool, true, false}
use mathlib.Core.List.{List}
use lib.ListN.{length}
use Rattle.laws.specs.Lending.{size, Logged, lacks_room}
use Rattle.laws.proofs.Choice.{first_here, first_later}
use Rattle.laws.proofs.Lending.{part, back}
use Rattle.laws.proofs.Room.{starts_inside, has_left}
use Rattle.record.specs.Records.{record_of, record_refusal}
use Rattle.record.specs.declared.Record.{Record}
use Rattle.definition.specs.Behaviors.{fixed_up, complex}
use Rattle.definition.specs.Visits.{fixed_record, outcome}
use Rattle.definition.specs.Listings.{items_of, item_bytes, listing_of, listing_refusal, listing_call}
use Rattle.definition.specs.declared.Answer.TheVariants.{Done, Refused, Complex, Short}
use Rattle.definition.proofs.Outcomes.{by_record, past_record, bare_record, refused, refused_complex, refused_short, too_short, enough, lent_room, written}
use Rattle.listing.specs.Calls.{listed_from}

-- of a record that passed: no room, written
module _ (x : Record) (buffer : List ℕ) (start : ℕ) where
  pub too_long : {n : ℕ} {t : Bool} → t ≡ lacks_room (length (listing_of x)) start (length buffer) → t ≡ true → n ≡ length (listing_of x) → (Short n, buffer) ≡ listed_from x buffer start
  unfolding listed_from
  too_long t h e = rw e (sym (refused_short x.opcode (listing_of x) buffer start (too_short (length (listing_of x)) buffer start (sym t ∙ h))))

  pub starts_room : {t : Bool} → t ≡ lacks_room (length (listing_of x)) start (length buffer) → t ≡ false → start ≤ length buffer
  starts_room e h = starts_inside (length (listing_of x)) start (length buffer) (sym e ∙ h)

  pub listing_room : {t : Bool} → t ≡ lacks_room (length (listing_of x)) start (length buffer) → t ≡ false → size item_bytes (items_of x) ≤ length (part buffer start)
  unfolding size
  listing_room t h = lent_room buffer start (has_left (length (listing_of x)) start (length buffer) (sym t ∙ h))

  pub fitting :
      {ys : List ℕ} {n : ℕ} {t : Bool} → t ≡ lacks_room (length (listing_of x)) start (length buffer) → t ≡ false
      → Logged item_bytes (items_of x) (part buffer start) ys n → (Done n, back buffer start ys) ≡ listed_from x buffer start
  unfolding listed_from
  fitting t h l = sym (written x.opcode buffer start (enough (length (listing_of x)) buffer start (sym t ∙ h)) l)

-- of bytes: refused 1 or 2, refused 4, or as the record that they are
module _ (b buffer : List ℕ) (start : ℕ) where
  fixed : {x y : Record} → y ≡ record_of b → x ≡ fixed_up y → x ≡ fixed_record b
  fixed p f = f ∙ ap fixed_up p

  pub turned_down : {n : ℕ} → n ≡ record_refusal b → (record_refusal b ≡ 0 → ⊥) → (Refused n, buffer) ≡ listing_call b buffer start
  unfolding listing_call listing_refusal
  turned_down e ne =
      rw e (sym (refused (record_of b).opcode (listing_of (fixed_record b)) buffer start (by_record b _ ne) (bare_record b ne)))

  pub complex_one_lem : {x y : Record} → record_refusal b ≡ 0 → y ≡ record_of b → x ≡ fixed_up y → complex x ≡ true → (Complex x.opcode, buffer) ≡ listing_call b buffer start
  unfolding listing_call listing_refusal fixed_up
  complex_one_lem z p f h =
      rw (fixed p f)
      (sym
      (refused_complex (record_of b).opcode (listing_of (fixed_record b)) buffer start
      (past_record b _ z ∙ first_here (complex (fixed_record b)) 4 _ (rw (fixed p f) at h))))

  pub by_room_lem : {x y : Record} → record_refusal b ≡ 0 → y ≡ record_of b → x ≡ fixed_up y → complex x ≡ false → listed_from x buffer start ≡ listing_call b buffer start
  unfolding listing_call listing_refusal listed_from fixed_up
  by_room_lem z p f h =
      rw (fixed p f)
      (ap (λ (k : ℕ). outcome k (record_of b).opcode (listing_of (fixed_record b)) buffer start)
      (sym (past_record b _ z ∙ first_later (complex (fixed_record b)) 4 _ (rw (fixed p f) at h))))
