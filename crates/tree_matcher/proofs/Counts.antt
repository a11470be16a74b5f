-- Counts that follow one another.
use Rattle.std.proofs.Common.{◌≡◌, ℕ, zero, suc, ◌+◌, ap, ◌∙◌, arith}
use Rattle.pattern_rows.specs.Counting.{ticked, counted}

pub counted_sum : (count a b : ℕ) → counted (counted count a) b ≡ counted count (a + b)
counted_sum count zero b = let e : b ≡ zero + b = omega arith in ap (counted count) e
counted_sum count (suc a) b = let e : suc (a + b) ≡ suc a + b = omega arith in counted_sum (ticked count) a b ∙ ap (counted count) e

pub counted_no_more : (count a : ℕ) → counted count (a + 0) ≡ counted count a
counted_no_more count a = let e : a + 0 ≡ a = omega arith in ap (counted count) e
