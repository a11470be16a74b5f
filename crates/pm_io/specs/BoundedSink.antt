-- A sink in memory that has room for so many bytes in all.
use Rattle.std.specs.Prelude.{◌≡◌, ℕ, ◌-◌, ◌<◌, min, List, ◌++◌, length, take, Result, Ok, Err}
use Rattle.pm_io.specs.Causes.{one_more}

-- how many bytes it takes in all, those that it took, and how often it failed
pub record BoundedSink : Type 0 where
  pub room : ℕ
  pub taken : List ℕ
  pub faults : ℕ

-- a write takes what fits of the piece, and fails exactly where nothing fits of a piece that isn't empty
abbrev pub TakesWhatFits : {E : Type 0} → BoundedSink → BoundedSink → List ℕ → Result ℕ E → Type 0
TakesWhatFits before after piece (Ok count) =
    (count ≡ min (length piece) (before.room - length before.taken)) × (0 < length piece → length before.taken < before.room)
    × (after ≡ record before { taken = before.taken ++ take count piece })
TakesWhatFits before after piece (Err _) =
    (0 < length piece) × (length before.taken ≡ before.room) × (after ≡ record before { faults = one_more before.faults })
