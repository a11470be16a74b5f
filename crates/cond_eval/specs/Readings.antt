-- Words as a reading reads them.
use Rattle.std.specs.Prelude.{ℕ, Bool, ℤ}
use Rattle.pm_wide.specs.Types.{Ty}
use Rattle.cond_eval.specs.declared.reading.Reading.{Reading}
use Rattle.cond_eval.specs.Words.{numbers, read, exactly}

abbrev pub numbers_of : Reading → Ty
numbers_of reading = numbers reading.unsigned reading.precision

abbrev pub read_as : Reading → ℕ → ℤ
read_as reading bits = read reading.unsigned reading.precision bits

abbrev pub exactly_as : Reading → ℤ → ℕ × Bool
exactly_as reading z = exactly reading.unsigned reading.precision z
