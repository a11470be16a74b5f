-- Congruence of whole numbers modulo a power of two.
use Rattle.std.specs.Prelude.{ℕ, ◌≡◌, ◌^◌, ℤ, pos, ◌+ℤ◌, ◌*ℤ◌}

-- a and b differ by a multiple of 2 ^ m
pub record Congruent (m : ℕ) (a b : ℤ) : Type 0 where
  pub multiple : ℤ
  pub differ : a ≡ b +ℤ multiple *ℤ pos (2 ^ m)
