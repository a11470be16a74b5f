-- The text of a number below 0.
use Rattle.std.proofs.Common.{◌≡◌, ℕ, zero, suc, ◌+◌, ◌<◌, ◌∷◌, refl, arith}
use Rattle.std.specs.Prelude.{decimal, pos, negsuc, ◌-ℤ◌}
use Rattle.std.specs.Fmt.{signed_decimal}
use Rattle.std.proofs.lemmas.Int.{ints}

difference : (n m k : ℕ) → n + suc k ≡ m → pos n -ℤ pos m ≡ negsuc k
difference n m k e = omega (arith, ints)

-- n lies below m by some size
pub below_zero : (n m size : ℕ) → 0 < size → n + size ≡ m → signed_decimal (pos n -ℤ pos m) ≡ 45 ∷ decimal size
below_zero n m zero positive e = absurd (omega arith)
below_zero n m (suc k) positive e = rw (difference n m k e) refl
