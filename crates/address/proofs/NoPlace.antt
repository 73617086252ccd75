-- The implicit lists that touch no memory. Assumes nothing.
use Rattle.std.specs.Prelude.{None}
use Rattle.std.proofs.Common.{◌≡◌, ℕ, ◌≤◌, Bool, true, false, ltb, [], refl, inl, inr, zero-le, ltb-false, ltb-true}
use lib.ListN.{get_or-eq_default}
use Rattle.laws.proofs.Span.{span_but}
use Rattle.registers.specs.declared.RegisterFile.{RegisterFile}
use Rattle.implicit.specs.Lists.{implicits, implicit_of}
use Rattle.address.specs.Places.{implied_place, list_place, entry_place, operand_place}

module _ (f : RegisterFile) (l : ℕ) (p : l ≡ 15 → ⊥) (q : l ≡ 16 → ⊥) (r : l ≡ 26 → ⊥) (s : l ≡ 27 → ⊥) (t : l ≡ 28 → ⊥) where
  past_last : 29 ≤ l → None ≡ implied_place f l
  unfolding implied_place implicit_of list_place
  past_last h = rw (get_or-eq_default implicits [] {n = l} h)

  in_table : (ltb l 29 ≡ true) → None ≡ implied_place f l
  unfolding implied_place implicit_of list_place entry_place operand_place
  in_table e =
      span_but (λ (k : ℕ). None ≡ implied_place f k) l 0 29 (
        inr refl,
        (
          inr refl,
          (
            inr refl,
            (
              inr refl,
              (
                inr refl,
                (
                  inr refl,
                  (
                    inr refl,
                    (
                      inr refl,
                      (
                        inr refl,
                        (
                          inr refl,
                          (
                            inr refl,
                            (
                              inr refl,
                              (
                                inr refl,
                                (
                                  inr refl,
                                  (
                                    inr refl,
                                    (
                                      inl p,
                                      (
                                        inl q,
                                        (
                                          inr refl,
                                          (
                                            inr refl,
                                            (
                                              inr refl,
                                              (
                                                inr refl,
                                                (
                                                  inr refl,
                                                  (
                                                    inr refl,
                                                    (
                                                      inr refl,
                                                      (
                                                        inr refl,
                                                        (
                                                          inr refl,
                                                          (
                                                            inl r,
                                                            (
                                                              inl s,
                                                              (
                                                                inl t,
                                                                tt,
                                                              ),
                                                            ),
                                                          ),
                                                        ),
                                                      ),
                                                    ),
                                                  ),
                                                ),
                                              ),
                                            ),
                                          ),
                                        ),
                                      ),
                                    ),
                                  ),
                                ),
                              ),
                            ),
                          ),
                        ),
                      ),
                    ),
                  ),
                ),
              ),
            ),
          ),
        ),
      )
      zero-le (ltb-true l 29 e)

  pub no_place : None ≡ implied_place f l
  no_place = by (ltb l 29) refl
    where
      by : (t : Bool) → ltb l 29 ≡ t → None ≡ implied_place f l
      by true e = in_table e
      by false e = past_last (ltb-false l 29 e)
