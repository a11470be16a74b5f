-- Words of any precision from 1 to 128, read as whole numbers without a sign or with one.
use Rattle.std.specs.Prelude.{ℕ, Bool, not, ℤ}
use lib.Count.{count_leading_zeros, count_trailing_zeros}
use Rattle.pm_wide.specs.Types.{Ty, value_of, word_of, in_range}

-- numbers of that many bits
abbrev pub numbers : Bool → ℕ → Ty
numbers unsigned precision = record { width = precision; unsigned = unsigned }

-- the whole number that a word stands for
abbrev pub read : Bool → ℕ → ℕ → ℤ
read unsigned precision bits = value_of (numbers unsigned precision) bits

-- the word of a whole number, and whether the number is outside the range
abbrev pub exactly : Bool → ℕ → ℤ → ℕ × Bool
exactly unsigned precision z =
    let these = numbers unsigned precision in (word_of these z, not (in_range these z))

-- how many zeros stand above the highest bit that is set, and below the lowest one: the precision
-- for 0
abbrev pub clz_of : ℕ → ℕ → ℕ
clz_of precision bits = count_leading_zeros precision bits

abbrev pub ctz_of : ℕ → ℕ → ℕ
ctz_of precision bits = count_trailing_zeros precision bits
