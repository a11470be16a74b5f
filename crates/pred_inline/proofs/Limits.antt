-- A number is above a limit, or not.
use Rattle.std.proofs.Common.{◌≡◌, ℕ, ◌<◌, ◌≤◌, true, false, nat_lt, arith}
use Rattle.std.proofs.lemmas.Bool.Decides.{nat_tests}

pub few : (limit n : ℕ) → n ≤ limit → nat_lt limit n ≡ false
few limit n h = grind (arith, nat_tests)

pub many : (limit n : ℕ) → limit < n → nat_lt limit n ≡ true
many limit n h = grind (arith, nat_tests)
