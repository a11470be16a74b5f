-- Which whole numbers are from -2^63 to 2^63 - 1.
use Rattle.std.proofs.Common.{◌≡◌, Bool, true, false, cond, Some, None, refl, arith}
use Rattle.std.specs.Prelude.{ℤ, pos, negsuc, FitsSigned, IsTrue}
use Rattle.std.specs.Int.{w64}
use Rattle.std.proofs.lemmas.Int.{ints}
use Rattle.pm_wide.specs.Types.{in_range, long_type}
use Rattle.pm_wide.proofs.Words.{bounds, within}
use Rattle.cond_eval.specs.declared.value.CValue.TheVariants.{Int}
use Rattle.cond_eval.specs.Values.{whole}

fits_in_range : (z : ℤ) → FitsSigned w64 z → IsTrue (in_range long_type z)
fits_in_range (pos n) h =
    let f = h.sfits in
    within long_type (pos n) (omega (arith, ints, f)) (omega (arith, ints, f))
fits_in_range (negsuc n) h =
    let f = h.sfits in
    within long_type (negsuc n) (omega (arith, ints, f)) (omega (arith, ints, f))

in_range_fits : (z : ℤ) → IsTrue (in_range long_type z) → FitsSigned w64 z
in_range_fits (pos n) h =
    let b = bounds long_type (pos n) h in
    record { sfits = omega (arith, ints, b.0, b.1) }
in_range_fits (negsuc n) h =
    let b = bounds long_type (negsuc n) h in
    record { sfits = omega (arith, ints, b.0, b.1) }

pub whole_fits : (z : ℤ) → FitsSigned w64 z → Some (Int z) ≡ whole z
whole_fits z h = by (in_range long_type z) (fits_in_range z h)
  where
    by : (b : Bool) → b ≡ true → Some (Int z) ≡ cond b (Some (Int z)) None
    by true e = refl
    by false e = cc

pub whole_not : (z : ℤ) → (FitsSigned w64 z → ⊥) → None ≡ whole z
whole_not z h = by (in_range long_type z) refl
  where
    by : (b : Bool) → in_range long_type z ≡ b → None ≡ cond b (Some (Int z)) None
    by true e = absurd (h (in_range_fits z e))
    by false e = refl
