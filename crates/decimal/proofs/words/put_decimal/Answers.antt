-- The digits that the kit spells, copied to the front.
use Rattle.std.proofs.Common.{ℕ, ◌≡◌, ◌<◌, ◌^◌, ◌∙◌, List, ap, arith, take}
use Rattle.io.specs.Digits.{last_digits, IsDigitCount}
use Rattle.decimal.specs.Words.{letters, decimal, places, spelt, word_bytes}
use Rattle.decimal.proofs.Numbers.{unique, fewest}
use Rattle.decimal.proofs.Texts.{respelt, room_respelt}
use Rattle.decimal.proofs.words.put_decimal.Goals as goal

-- what is copied has the bytes of the word
same :
    (n k : ℕ) (digits : List ℕ) → n < 2 ^ 64 → IsDigitCount 10 1 n k → take k digits ≡ last_digits 10 k n
    → word_bytes (letters (take k digits)) ≡ word_bytes (decimal n)
unfolding word_bytes spelt
same n k digits fits count digits_are =
    digits_are
    ∙ ap (λ (j : ℕ). spelt j n)
    (unique 10 1 n k (places 19 n) (omega arith) count (fewest 19 n (omega (arith, fits))))

pub put-requires : goal.put-requires
put-requires c =
    room_respelt _ _
    (same c.args.n c.decimal-n.result c.decimal-n.new.out c.ranges.n.fits c.decimal-n.ensures.len c.decimal-n.ensures.digits)
    c.requires

pub returns : goal.returns
returns c =
    respelt _ _
    (same c.args.n c.decimal-n.result c.decimal-n.new.out c.ranges.n.fits c.decimal-n.ensures.len c.decimal-n.ensures.digits)
    c.put.ensures
