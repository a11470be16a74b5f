-- A counter goes up to 2 ^ 64 - 1, where it stands still.
use Rattle.std.specs.Prelude.{ℕ, zero, suc, ◌+◌, ◌-◌, ◌^◌, min}

-- one more
abbrev pub ticked : ℕ → ℕ
ticked count = min (count + 1) (2 ^ 64 - 1)

-- so many more
abbrev pub counted : ℕ → ℕ → ℕ
counted count zero = count
counted count (suc more) = counted (ticked count) more
