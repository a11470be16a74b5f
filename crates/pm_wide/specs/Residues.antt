-- Whole numbers modulo a power of two.
use Rattle.std.specs.Prelude.{ℕ, ℤ, true}
use Rattle.pm_wide.specs.Types.{word_of}

-- a whole number modulo 2 ^ m, from 0 to 2 ^ m - 1
abbrev pub residue : ℕ → ℤ → ℕ
residue m z = word_of (record { width = m; unsigned = true }) z
