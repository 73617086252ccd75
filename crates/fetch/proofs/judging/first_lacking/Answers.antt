use Rattle.std.proofs.Common.{◌≡◌, ℕ, true, false, rules, zero-le}
use Rattle.std.proofs.lemmas.Iterator.{first_from_Range}
use Rattle.fetch.proofs.Walks.{on_either}
use Rattle.fetch.specs.Parts.{lacking}
use Rattle.fetch.proofs.judging.first_lacking.Goals as goal

pub returns : goal.returns
returns c =
    let a = c.args in
    on_either c.find.result
    (first_from_Range _ _ _ c.find.result
    (λ (k : ℕ). lacking a.needs a.set k ≡ true)
    (λ (k : ℕ). lacking a.needs a.set k ≡ false)
    c.find.ensures.ran
    (λ k q called. search rules)
    (λ k q called. search rules))
    (λ none k low. none k zero-le low)
    (λ k some. (some.1, some.2, λ j low. some.3 j zero-le low))
